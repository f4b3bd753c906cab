-- What stands before the Clusters, as it is written.
use Rattle.std.proofs.Common.{◌≡◌, ℕ, ◌+◌, ◌-◌, ◌<◌, ◌≤◌, ◌^◌, true, take, map, get_or, All, List, [], ◌∷◌, ◌++◌, length, sym, ap, ◌∙◌, append_assoc, length-append, arith}
use Rattle.std.specs.List.{AllByRecursion}
use Rattle.std.proofs.lemmas.List.{append-nil, take_more, map-append}
use Rattle.std.proofs.lemmas.List.Elements.{All-tail}
use Rattle.mc_ebml.specs.Written.{has_no_zero}
use Rattle.mc_tracks.specs.declared.track.Track.{Track}
use Rattle.mc_written.specs.Elements.{Element, element_text, elements}
use Rattle.mc_written.specs.Fronts.{track_elements, entry, tracks_body, IsShortText, HasShortTexts}
use Rattle.mc_written.proofs.Lengths.{one_more}
use Rattle.mc_written.proofs.Tracks.{entry_short, tracks_short}
use Rattle.mc_written.proofs.Entries.{plain_test}

pub no_zero : (text : List ℕ) → IsShortText text → has_no_zero text ≡ true
no_zero text plain = plain_test text plain.no_zero

pub short : (text : List ℕ) → IsShortText text → length text < 2 ^ 56 - 1
short text plain = let few = plain.short in omega arith

pub ruleset texts = (no_zero, short)

-- one element more at the end
pub elements_push : (es : List Element) (e : Element) → elements (es ++ e ∷ []) ≡ elements es ++ element_text e
elements_push [] e = append-nil (element_text e)
elements_push (d ∷ es) e = rw (elements_push es e) (sym (append_assoc (element_text d) (elements es) (element_text e)))

pub entry_small : (t : Track) → HasShortTexts t → length (elements (track_elements t)) < 2 ^ 56 - 1
entry_small t short = let few = entry_short t short in omega arith

pub entries_push : (i : ℕ) (ts : List Track) (t : Track) → i < length ts → t ≡ get_or ts i t → tracks_body (take (i + 1) ts) ≡ tracks_body (take i ts) ++ element_text (entry t)
entries_push i ts t lt is =
    let parts : take (i + 1) ts ≡ take i ts ++ t ∷ [] = take_more ts i t lt ∙ ap (λ (u : Track). take i ts ++ u ∷ []) (sym is) in
    rw (parts, map-append entry (take i ts) (t ∷ [])) (elements_push (map entry (take i ts)) (entry t))

all_short : (ts : List Track) → All HasShortTexts ts → AllByRecursion HasShortTexts ts
all_short [] all = tt
all_short (t ∷ ts) all = (all 0 t (omega arith), all_short ts (All-tail HasShortTexts t ts all))

pub tracks_small : (ts : List Track) → All HasShortTexts ts → length ts ≤ 64 → length (tracks_body ts) < 2 ^ 56 - 1
tracks_small ts all few = omega (arith, tracks_short ts (all_short ts all))

pub element_small : (e : Element) (text : List ℕ) → text ≡ element_text e → length e.1 ≤ 65536 → length text < 2 ^ 56 - 1
element_small e text is few = omega (arith, ap length is, one_more e [], length-append (element_text e) [])
