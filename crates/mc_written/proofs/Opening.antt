-- What stands before the Clusters, read back.
use Rattle.std.proofs.Common.{◌≡◌, ℕ, zero, suc, ◌+◌, ◌-◌, ◌<◌, ◌≤◌, ◌^◌, true, false, List, [], ◌∷◌, ◌++◌, length, Some, None, Ok, refl, sym, ◌∙◌, subst, arith, length-append, ltb, codes}
use Rattle.std.proofs.lemmas.Bool.{le-ltb, lt-ltb, ne_eqb}
use Rattle.std.proofs.lemmas.List.{append-nil}
use Rattle.std.proofs.lemmas.Str.{IsUtf8-from_ascii}
use Rattle.std.specs.Str.{IsAscii}
use Rattle.std.specs.Prelude.{◌==◌}
use Rattle.std.specs.List.{AllByRecursion}
use Rattle.mc_ebml.specs.declared.read.Size.TheVariants.{Known, Unknown}
use Rattle.mc_ebml.specs.Written.{head_octets}
use Rattle.mc_tracks.specs.declared.children.Master.TheVariants.{EbmlHeader, Info}
use Rattle.mc_tracks.specs.declared.track.Track.{Track}
use Rattle.mc_tracks.specs.Children.{first}
use Rattle.mc_tracks.specs.Header.{integer, text, ebml_header_of, info_of, tracks_of}
use Rattle.mc_ebml.specs.Ids.{DOC_TYPE, SEGMENT, INFO, TRACKS, TIMESTAMP_SCALE, CLUSTER}
use Rattle.mc_walk.specs.Opening.{segment_from, segment_child, segment_children, info_in, tracks_in, header_of, opened_film}
use Rattle.mc_written.proofs.Lower.{Lower}
use Rattle.mc_written.specs.Elements.{Element, element_text, elements, number}
use Rattle.mc_written.specs.Fronts.{ebml_header, info, opening_text, segment_head, front_with}
use Rattle.mc_written.proofs.Standing.{Stands, stands_whole, first_part, second_part, lies, head_stands}
use Rattle.mc_written.proofs.Lengths.{element_long, number_small}
use Rattle.mc_written.proofs.Children.{CanStand, CanBeChild, child_of, children_at, children_all, element_read, body_read, stop_is, integer_read, text_read, text_is}
use Rattle.mc_written.proofs.Lengths.{one_more}
use Rattle.mc_written.proofs.Entries.{number_child, number_value, other_child}

-- ---- the EBML header

header_children : AllByRecursion (CanBeChild EbmlHeader) ((DOC_TYPE, codes "matroska") ∷ [])
header_children = (other_child EbmlHeader DOC_TYPE (codes "matroska") refl refl (omega arith), tt)

is_ascii : IsAscii (codes "matroska")
is_ascii zero = omega arith
is_ascii (suc zero) = omega arith
is_ascii (suc (suc zero)) = omega arith
is_ascii (suc (suc (suc zero))) = omega arith
is_ascii (suc (suc (suc (suc zero)))) = omega arith
is_ascii (suc (suc (suc (suc (suc zero))))) = omega arith
is_ascii (suc (suc (suc (suc (suc (suc zero)))))) = omega arith
is_ascii (suc (suc (suc (suc (suc (suc (suc zero))))))) = omega arith
is_ascii (suc (suc (suc (suc (suc (suc (suc (suc k)))))))) = omega arith

doc_type : (law : Lower) → text (elements ((DOC_TYPE, codes "matroska") ∷ [])) [] (first DOC_TYPE (children_at 0 ((DOC_TYPE, codes "matroska") ∷ []))) ≡ codes "matroska"
doc_type law = text_read (elements ((DOC_TYPE, codes "matroska") ∷ [])) 0 [] DOC_TYPE ((DOC_TYPE, codes "matroska") ∷ []) (stands_whole (elements ((DOC_TYPE, codes "matroska") ∷ [])))
    ∙ text_is law [] (codes "matroska") (omega arith) (IsUtf8-from_ascii (codes "matroska") is_ascii) refl

header_small : length (elements ((DOC_TYPE, codes "matroska") ∷ [])) < 2 ^ 56 - 1
header_small = omega (arith, one_more (DOC_TYPE, codes "matroska") [])

pub ebml_read : (law : Lower) (octets : List ℕ) → Stands octets 0 (element_text ebml_header) → ebml_header_of octets ≡ Ok (0 + length (element_text ebml_header))
unfolding ebml_header_of
ebml_read law octets s =
    rw (element_read law octets 0 ebml_header (refl, header_small) s, body_read octets 0 ebml_header s, children_all law EbmlHeader ((DOC_TYPE, codes "matroska") ∷ []) header_children, doc_type law) refl

-- ---- the Segment

pub segment_read : (law : Lower) (n : ℕ) (octets : List ℕ) (at : ℕ) → 0 < n → Stands octets at segment_head
    → segment_from n octets at ≡ Ok (record { opening = at + length segment_head; end = None })
unfolding segment_from
segment_read law zero octets at some s = absurd (omega arith)
segment_read law (suc n) octets at some s =
    let front = subst (λ (x : List ℕ). Stands octets at x) (sym (append-nil segment_head)) s in
    rw (head_stands law octets [] at SEGMENT Unknown refl tt front) refl

child_read : (law : Lower) (octets : List ℕ) (at : ℕ) (e : Element) → CanStand e → (e.0 == CLUSTER) ≡ false → Stands octets at (element_text e) → segment_child octets None at ≡ Some (child_of at e)
child_read law octets at e can other s = rw (element_read law octets at e can s, other) refl

first_info : (law : Lower) (n : ℕ) (octets : List ℕ) (at : ℕ) (body : List ℕ) → 0 < n → CanStand (INFO, body) → Stands octets at (element_text (INFO, body))
    → first INFO (segment_children n octets None at) ≡ Some (child_of at (INFO, body))
unfolding segment_children
first_info law zero octets at body some can s = absurd (omega arith)
first_info law (suc n) octets at body some can s = rw (child_read law octets at (INFO, body) can refl s) refl

first_tracks : (law : Lower) (n : ℕ) (octets : List ℕ) (at : ℕ) (first_body body : List ℕ) → 1 < n → CanStand (INFO, first_body) → CanStand (TRACKS, body) → Stands octets at (element_text (INFO, first_body))
    → Stands octets (at + length (element_text (INFO, first_body))) (element_text (TRACKS, body))
    → first TRACKS (segment_children n octets None at) ≡ Some (child_of (at + length (element_text (INFO, first_body))) (TRACKS, body))
unfolding segment_children
first_tracks law zero octets at first_body body some can can' s s' = absurd (omega arith)
first_tracks law (suc zero) octets at first_body body some can can' s s' = absurd (omega arith)
first_tracks law (suc (suc n)) octets at first_body body some can can' s s' =
    rw (child_read law octets at (INFO, first_body) can refl s, child_read law octets (at + length (element_text (INFO, first_body))) (TRACKS, body) can' refl s') refl

-- ---- Info and Tracks

info_children : (scale : ℕ) → AllByRecursion (CanBeChild Info) (number TIMESTAMP_SCALE scale ∷ [])
info_children scale = (number_child Info TIMESTAMP_SCALE scale refl, tt)

info_read : (law : Lower) (scale at : ℕ) → 0 < scale → scale < 2 ^ 64 → info_of (elements (number TIMESTAMP_SCALE scale ∷ [])) at ≡ Ok scale
unfolding info_of
info_read law scale at positive fits =
    let es : List Element = number TIMESTAMP_SCALE scale ∷ [] in
    let value : integer (elements es) 1000000 (first TIMESTAMP_SCALE (children_at 0 es)) ≡ scale =
    integer_read (elements es) 0 1000000 TIMESTAMP_SCALE es (stands_whole (elements es)) ∙ number_value law 1000000 scale fits in
    let some : (scale == 0) ≡ false = ne_eqb scale 0 (λ e. omega arith) in
    rw (children_all law Info es (info_children scale), value, some) refl

pub info_small : (scale : ℕ) → length (elements (number TIMESTAMP_SCALE scale ∷ [])) ≤ 24
info_small scale = omega (arith, one_more (number TIMESTAMP_SCALE scale) [], number_small scale)

size_is : (at : ℕ) (e : Element) → at + length (element_text e) - (at + length (head_octets e.0 (Known (length e.1)))) ≡ length e.1
size_is at e = omega (arith, stop_is at e)

info_found : (law : Lower) (octets : List ℕ) (scale at : ℕ) → 0 < scale → scale < 2 ^ 64 → Stands octets at (element_text (info scale)) → info_in octets (child_of at (info scale)) ≡ Ok scale
info_found law octets scale at positive fits s =
    let body : List ℕ = elements (number TIMESTAMP_SCALE scale ∷ []) in
    let short = info_small scale in
    let fits_in : ltb 16777216 (length body) ≡ false = le-ltb 16777216 (length body) (omega arith) in
    rw (body_read octets at (info scale) s, size_is at (info scale), fits_in) (info_read law scale _ positive fits)

tracks_found : (octets : List ℕ) (at : ℕ) (body : List ℕ) (tracks : List Track) → length body ≤ 16777216 → ((from : ℕ) → tracks_of body from ≡ Ok tracks)
    → Stands octets at (element_text (TRACKS, body)) → tracks_in octets (child_of at (TRACKS, body)) ≡ Ok tracks
tracks_found octets at body tracks short read s =
    let fits_in : ltb 16777216 (length body) ≡ false = le-ltb 16777216 (length body) short in
    rw (body_read octets at (TRACKS, body) s, size_is at (TRACKS, body), fits_in) (read _)

pub header_read : (law : Lower) (octets : List ℕ) (scale at : ℕ) (body : List ℕ) (tracks : List Track) → 0 < scale → scale < 2 ^ 64 → length body ≤ 16777216 → ((from : ℕ) → tracks_of body from ≡ Ok tracks)
    → Stands octets at (element_text (info scale) ++ element_text (TRACKS, body))
    → header_of octets (record { opening = at; end = None }) ≡ Ok (record { scale = scale; tracks = tracks })
unfolding header_of
header_read law octets scale at body tracks positive fits short read s =
    let texts : List ℕ = element_text (info scale) in
    let s1 = first_part octets texts (element_text (TRACKS, body)) at s in
    let s2 = second_part octets texts (element_text (TRACKS, body)) at s in
    let lie = lies octets (element_text (TRACKS, body)) (at + length texts) s2 in
    let long = element_long (info scale) in
    let long' = element_long (TRACKS, body) in
    let small = info_small scale in
    let behind : ltb at (at + length texts) ≡ true = lt-ltb at (at + length texts) (omega arith) in
    let can : CanStand (info scale) = (refl, omega arith) in
    let can' : CanStand (TRACKS, body) = (refl, omega arith) in
    rw (
      first_info law (length octets) octets at (elements (number TIMESTAMP_SCALE scale ∷ [])) (omega arith) can s1,
      first_tracks law (length octets) octets at (elements (number TIMESTAMP_SCALE scale ∷ [])) body (omega arith) can can' s1 s2,
      behind,
      info_found law octets scale at positive fits s1,
      tracks_found octets (at + length texts) body tracks short read s2,
    ) refl

-- ---- the whole

abbrev pub opening_at : ℕ
opening_at = 0 + length (element_text ebml_header) + length segment_head

pub opened_read : (law : Lower) (octets : List ℕ) (scale : ℕ) (body : List ℕ) (tracks : List Track) → 0 < scale → scale < 2 ^ 64 → length body ≤ 16777216 → ((from : ℕ) → tracks_of body from ≡ Ok tracks)
    → Stands octets 0 (front_with scale body)
    → opened_film octets ≡ Ok (record { octets = octets; opening = opening_at; segment_end = None; scale = scale; tracks = tracks })
unfolding opened_film
opened_read law octets scale body tracks positive fits short read s =
    let heads : List ℕ = element_text ebml_header in
    let more : List ℕ = element_text (info scale) ++ element_text (TRACKS, body) in
    let opening = first_part octets opening_text more 0 s in
    let lie = lies octets opening_text 0 opening in
    let sum = length-append heads segment_head in
    let long = element_long ebml_header in
    let behind = second_part octets opening_text more 0 s in
    let here : 0 + length opening_text ≡ opening_at = omega arith in
    let children = rw here at behind in
    let segment = second_part octets heads segment_head 0 opening in
    rw (
      ebml_read law octets (first_part octets heads segment_head 0 opening),
      segment_read law (length octets) octets (0 + length heads) (omega arith) segment,
      header_read law octets scale opening_at body tracks positive fits short read children,
    ) refl
