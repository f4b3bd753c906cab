-- The packets of the current range, merged from its queues, are the film's in file order.
use Rattle.std.proofs.Common.{◌≡◌, ℕ, ◌+◌, ◌<◌, Bool, true, false, ◌&&◌, ◌||◌, Option, Some, None, List, [], ◌∷◌, refl, ap, sym, ◌∙◌, inl, inr, ◌==◌, arith, suc}
use Rattle.std.specs.Prelude.{nat_lt, IfSome, reverse}
use Rattle.std.specs.List.{filter, prefix_len, AllByRecursion}
use Rattle.std.specs.Option.{option_map}
use Rattle.std.proofs.lemmas.Bool.{and_parts, cases_Bool, eq-eqb, eqb-true}
use Rattle.std.proofs.lemmas.Bool.Decides.{nat_tests}
use Rattle.mc_packet.specs.declared.packet.Packet.{Packet}
use Rattle.mc_packet.specs.declared.choice.Choice.{Choice}
use Rattle.mc_packet.specs.Choices.{is_distinct, is_other, is_track}
use Rattle.mc_journal.specs.Films.{Film, IsRising, at}
use Rattle.mc_journal.specs.Ranges.{Range, Span, in_span, on_span}
use Rattle.mc_journal.specs.Stands.{stand}
use Rattle.mc_range.specs.Range.{RangeState, as_range, spans_of}
use Rattle.mc_range.specs.Serving.{HoldsFilm}
use Rattle.mc_calls.specs.State.{DemuxState}
use Rattle.mc_calls.specs.Demuxers.{IsDemux}
use Rattle.mc_calls.specs.Film.{StandsFor}
use Rattle.mc_calls.specs.Cached.{cached_by, cached_in, cached_of, held_of, is_cached, is_earlier, is_in, merged}
use Rattle.mc_calls.proofs.Viewed.{both_or}

-- ---- two parts of a rising list

all_filter : (P : Packet → Type 0) (f : Packet → Bool) (ps : List Packet) → AllByRecursion P ps → AllByRecursion P (filter f ps)
all_filter P f [] h = tt
all_filter P f (p ∷ ps) h = elim (cases_Bool (f p)) [ inl y ↦ rw y (h.0, all_filter P f ps h.1) | inr o ↦ rw o (all_filter P f ps h.1) ]

none_earlier : (p : Packet) (qs : List Packet) → AllByRecursion (λ q. at p < at q) qs → prefix_len (λ q. is_earlier q p) qs ≡ 0
none_earlier p [] h = refl
none_earlier p (q ∷ qs) h =
    let l = h.0 in
    let a : nat_lt (at q) (at p) ≡ false = grind (arith, nat_tests) in
    let b : (at q == at p) ≡ false = grind (arith, nat_tests) in
    rw (a, b) refl

in_front : (p : Packet) (ps qs : List Packet) → AllByRecursion (λ q. at p < at q) qs → merged is_earlier (p ∷ ps) qs ≡ p ∷ merged is_earlier ps qs
in_front p ps qs h = rw (none_earlier p qs h) refl

behind : (p : Packet) (ps qs : List Packet) → AllByRecursion (λ q. at p < at q) ps → merged is_earlier ps (p ∷ qs) ≡ p ∷ merged is_earlier ps qs
behind p [] qs h = refl
behind p (x ∷ ps) qs h =
    let l = h.0 in
    let y : nat_lt (at p) (at x) ≡ true = grind (arith, nat_tests) in
    let n = prefix_len (λ q. is_earlier q x) qs in
    let one : 1 + n ≡ suc n = omega arith in
    rw (y, one) refl

parts : (f g : Packet → Bool) (ps : List Packet) → IsRising ps → ((p : Packet) → f p ≡ true → g p ≡ false)
    → merged is_earlier (filter f ps) (filter g ps) ≡ filter (λ p. f p || g p) ps
parts f g [] r d = refl
parts f g (p ∷ ps) r d = elim (cases_Bool (f p)) [
  | inl y ↦
      let n = d p y in
      rw (y, n) (in_front p (filter f ps) (filter g ps) (all_filter (λ q. at p < at q) g ps r.0) ∙ ap (λ qs. p ∷ qs) (parts f g ps r.1 d))
  | inr o ↦ elim (cases_Bool (g p)) [
    | inl y ↦ rw (o, y) (behind p (filter f ps) (filter g ps) (all_filter (λ q. at p < at q) f ps r.0) ∙ ap (λ qs. p ∷ qs) (parts f g ps r.1 d))
    | inr n ↦ rw (o, n) (parts f g ps r.1 d)
  ]
]

-- ---- the parts of a range

same_filter : (f g : Packet → Bool) (ps : List Packet) → ((p : Packet) → f p ≡ g p) → filter f ps ≡ filter g ps
same_filter f g [] e = refl
same_filter f g (p ∷ ps) e = elim (cases_Bool (g p)) [
  | inl y ↦ let x : f p ≡ true = e p ∙ y in rw (x, y) (ap (λ qs. p ∷ qs) (same_filter f g ps e))
  | inr n ↦ let x : f p ≡ false = e p ∙ n in rw (x, n) (same_filter f g ps e)
]

no_filter : (f : Packet → Bool) (ps : List Packet) → ((p : Packet) → f p ≡ false) → filter f ps ≡ []
no_filter f [] e = refl
no_filter f (p ∷ ps) e = let n = e p in rw n (no_filter f ps e)

twice : (f g : Packet → Bool) (ps : List Packet) → filter g (filter f ps) ≡ filter (λ p. f p && g p) ps
twice f g [] = refl
twice f g (p ∷ ps) = elim (cases_Bool (f p)) [
  | inl y ↦ elim (cases_Bool (g p)) [ inl z ↦ rw (y, z) (ap (λ qs. p ∷ qs) (twice f g ps)) | inr n ↦ rw (y, n) (twice f g ps) ]
  | inr o ↦ rw o (twice f g ps)
]

and_false : (b : Bool) → (b && false) ≡ false
and_false true = refl
and_false false = refl

in_track : (o : Option Span) (k : ℕ) (ps : List Packet) → in_span o (filter (λ p. p.track == k) ps) ≡ filter (λ p. p.track == k && on_span o (is_in (at p))) ps
in_track None k ps = sym (no_filter (λ p. p.track == k && false) ps (λ p. and_false (p.track == k)))
in_track (Some s) k ps = twice (λ p. p.track == k) (λ p. is_in (at p) s) ps

-- of a kind's track, in the track's span
abbrev pub in_kind : Range → Option ℕ → Packet → Bool
in_kind r None p = false
in_kind r (Some k) p = p.track == k && on_span (r.spans k) (is_in (at p))

kind_film : (ps : List Packet) (r : RangeState) (t : Option ℕ) → HoldsFilm ps r → held_of t (Some r) ≡ filter (in_kind (as_range r) t) ps
kind_film ps r None h = sym (no_filter (λ p. false) ps (λ p. refl))
kind_film ps r (Some k) h = sym (h k) ∙ in_track (spans_of r.queues k) k ps

kinds_off : (r : Range) (s t : Option ℕ) (p : Packet) → is_other s t ≡ true → in_kind r s p ≡ true → in_kind r t p ≡ false
kinds_off r None t p o y = absurd (cc)
kinds_off r (Some a) None p o y = refl
kinds_off r (Some a) (Some b) p o y =
    let both = and_parts (p.track == a) (on_span (r.spans a) (is_in (at p))) y in
    let e : p.track ≡ a = eqb-true p.track a both.0 in
    elim (cases_Bool (p.track == b)) [
      | inl z ↦ absurd (let f : p.track ≡ b = eqb-true p.track b z in let same : (a == b) ≡ true = eq-eqb a b (sym e ∙ f) in let bad : false ≡ true = rw same at o in cc)
      | inr n ↦ rw n refl
    ]

kind_is : (r : Range) (t : Option ℕ) (p : Packet) → in_kind r t p ≡ (is_track t p.track && on_span (r.spans p.track) (is_in (at p)))
kind_is r None p = refl
kind_is r (Some k) p = elim (cases_Bool (k == p.track)) [
  | inl y ↦
      let e : k ≡ p.track = eqb-true k p.track y in
      let z : (p.track == k) ≡ true = eq-eqb p.track k (sym e) in
      rw (y, z) (ap (λ i. on_span (r.spans i) (is_in (at p))) e)
  | inr n ↦ elim (cases_Bool (p.track == k)) [
    | inl z ↦ absurd (let e : p.track ≡ k = eqb-true p.track k z in let y : (k == p.track) ≡ true = eq-eqb k p.track (sym e) in let bad : false ≡ true = sym n ∙ y in cc)
    | inr o ↦ rw (n, o) refl
  ]
]

all_kinds : (set : Choice) (r : Range) (p : Packet) → (in_kind r set.video p || (in_kind r set.audio p || in_kind r set.sub p)) ≡ is_cached set r p
all_kinds set r p =
    let t = on_span (r.spans p.track) (is_in (at p)) in
    let v = kind_is r set.video p in
    let a = kind_is r set.audio p in
    let s = kind_is r set.sub p in
    rw (v, a, s) (both_or (is_track set.video p.track) (is_track set.audio p.track) (is_track set.sub p.track) t)

both_off : (a b : Bool) → a ≡ false → b ≡ false → (a || b) ≡ false
both_off a b x y = rw (x, y) refl

abbrev three : Choice → Option RangeState → List Packet
three set o = merged is_earlier (held_of set.video o) (merged is_earlier (held_of set.audio o) (held_of set.sub o))

range_film : (ps : List Packet) (set : Choice) (r : RangeState) → IsRising ps → is_distinct set ≡ true → HoldsFilm ps r
    → three set (Some r) ≡ filter (is_cached set (as_range r)) ps
range_film ps set r rise d h =
    let q = as_range r in
    let one = and_parts (is_other set.video set.audio) (is_other set.video set.sub && is_other set.audio set.sub) d in
    let two = and_parts (is_other set.video set.sub) (is_other set.audio set.sub) one.1 in
    let v = in_kind q set.video in
    let a = in_kind q set.audio in
    let s = in_kind q set.sub in
    let sound : merged is_earlier (held_of set.audio (Some r)) (held_of set.sub (Some r)) ≡ filter (λ p. a p || s p) ps =
    ap (λ xs. merged is_earlier xs (held_of set.sub (Some r))) (kind_film ps r set.audio h)
    ∙ ap (λ xs. merged is_earlier (filter a ps) xs) (kind_film ps r set.sub h)
    ∙ parts a s ps rise (λ p y. kinds_off q set.audio set.sub p two.1 y) in
    ap (λ xs. merged is_earlier (held_of set.video (Some r)) xs) sound
    ∙ ap (λ xs. merged is_earlier xs (filter (λ p. a p || s p) ps)) (kind_film ps r set.video h)
    ∙ parts v (λ p. a p || s p) ps rise (λ p y. both_off (a p) (s p) (kinds_off q set.video set.audio p one.0 y) (kinds_off q set.video set.sub p two.0 y))
    ∙ same_filter (λ p. v p || (a p || s p)) (is_cached set q) ps (λ p. all_kinds set q p)

none_held : (t : Option ℕ) → held_of t None ≡ []
none_held None = refl
none_held (Some k) = refl

current_film : (ps : List Packet) (set : Choice) (current : Option RangeState) → IsRising ps → is_distinct set ≡ true → IfSome current (HoldsFilm ps)
    → three set current ≡ cached_in ps set (option_map as_range current)
current_film ps set None rise d h =
    let v = none_held set.video in
    let a = none_held set.audio in
    let s = none_held set.sub in
    rw (v, a, s) refl
current_film ps set (Some r) rise d h = range_film ps set r rise d h

pub cached_film : (film : Film) (d : DemuxState) → IsDemux d → StandsFor film d → cached_of d ≡ cached_by film (reverse d.journal)
cached_film film d i s =
    let h = reverse d.journal in
    current_film film.packets d.set d.cache.current s.fits.film_is.rising i.distinct s.fits.held
    ∙ ap (λ (o : Option Range). cached_in film.packets d.set o) (sym s.fits.current_is)
    ∙ ap (λ (c : Choice). cached_in film.packets c (stand film.packets h).current) (sym s.fits.set_is)
