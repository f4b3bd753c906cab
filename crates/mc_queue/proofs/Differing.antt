-- What comparing head by head finds is the first place at which two lists in rising order differ.
use Rattle.std.proofs.Common.{◌≡◌, ℕ, ◌+◌, ◌<◌, ◌≤◌, ◌==◌, true, false, List, [], ◌∷◌, length, drop, arith, refl, ap, subst, sym, ◌∙◌, inl, inr}
use Rattle.std.specs.Prelude.{Option, Some, None, ℤ, int_le, is_some, nat_le}
use Rattle.std.proofs.lemmas.Int.{ints}
use Rattle.std.proofs.lemmas.Bool.{cases_Bool, cases_order, and_parts, true≢false, ltb-true, ltb-false, leb-false, lt-ltb, le-ltb, eqb-true, eq-eqb, ne_eqb}
use Rattle.mc_packet.specs.declared.packet.Packet.{Packet}
use Rattle.mc_packet.specs.declared.packet.Pos.{Pos}
use Rattle.mc_journal.specs.Films.{rank}
use Rattle.mc_queue.specs.declared.differences.Difference.{Difference}
use Rattle.mc_queue.specs.Places.{place, Rise, before, is_before, is_from}
use Rattle.mc_journal.specs.Views.{from_place}
use Rattle.mc_queue.specs.Differences.{time_at, Agree, Tells, same_heads, only_ours, only_other, of_two, difference_of}
use Rattle.mc_queue.specs.Queue.{QueueState}
use Rattle.mc_queue.specs.Union.{Meet, Compared, shared_from, shared_to, earlier, later}
use Rattle.mc_queue.proofs.Rising.{rise_bounds, rise_from, drop_before_is}

absent : (track from to x : ℕ) (ps : List Packet) → Rise track from to ps → x < from → time_at x ps ≡ None
absent track from to x [] r l = refl
absent track from to x (p ∷ ps) r l =
    let m = r.1 in
    let n = ne_eqb (place p) x (λ e. omega arith) in
    rw n (absent track (place p + 1) to x ps r.2 (omega arith))

here : (p : Packet) (ps : List Packet) → time_at (place p) (p ∷ ps) ≡ Some p.time
here p ps = let e = eq-eqb (place p) (place p) refl in rw e refl

past : (x : ℕ) (p : Packet) (ps : List Packet) → place p < x → time_at x (p ∷ ps) ≡ time_at x ps
past x p ps l = let n = ne_eqb (place p) x (λ e. omega arith) in rw n refl

some_none : (t : ℤ) → Some t ≡ None → ⊥
some_none t e = true≢false (ap (λ (o : Option ℤ). is_some o) e)

-- one list alone has a packet there
ours_alone : (track from end to : ℕ) (p : Packet) (ps qs : List Packet) → Rise track from to (p ∷ ps) → place p < end → ((x : ℕ) → x ≤ place p → time_at x qs ≡ None)
    → Tells from end (p ∷ ps) qs (Some (only_ours p.pos p.time))
ours_alone track from end to p ps qs r l none = record {
  begins = r.1;
  ends = l;
  ours_is = sym (here p ps);
  other_is = sym (none (place p) (omega arith));
  two = λ e. some_none p.time e;
  first = λ x a b. absent track (place p) to x (p ∷ ps) (r.0, omega arith, r.2) b ∙ sym (none x (omega arith));
}

other_alone : (track from end to : ℕ) (q : Packet) (ps qs : List Packet) → Rise track from to (q ∷ qs) → place q < end → ((x : ℕ) → x ≤ place q → time_at x ps ≡ None)
    → Tells from end ps (q ∷ qs) (Some (only_other q.pos q.time))
other_alone track from end to q ps qs r l none = record {
  begins = r.1;
  ends = l;
  ours_is = sym (none (place q) (omega arith));
  other_is = sym (here q qs);
  two = λ e. some_none q.time (sym e);
  first = λ x a b. none x (omega arith) ∙ sym (absent track (place q) to x (q ∷ qs) (r.0, omega arith, r.2) b);
}

-- both have one, with one time
agree_more : (track from to to' hi : ℕ) (p q : Packet) (ps qs : List Packet) → Rise track from to (p ∷ ps) → Rise track from to' (q ∷ qs) → place p ≡ place q → p.time ≡ q.time
    → Agree (place p + 1) hi ps qs → Agree from hi (p ∷ ps) (q ∷ qs)
agree_more track from to to' hi p q ps qs r s e t h x a b = elim (cases_order x (place p)) [
  | inl same ↦
      let f = ap (λ y. time_at y (p ∷ ps)) same ∙ here p ps in
      let g = ap (λ y. time_at y (q ∷ qs)) (same ∙ e) ∙ here q qs in
      f ∙ ap (λ (z : ℤ). Some z) t ∙ sym g
  | inr other ↦ elim other [
    | inl below ↦
        absent track (place p) to x (p ∷ ps) (r.0, omega arith, r.2) below
        ∙ sym (absent track (place q) to' x (q ∷ qs) (s.0, omega arith, s.2) (omega arith))
    | inr above ↦ past x p ps above ∙ h x (omega arith) b ∙ sym (past x q qs (omega arith))
  ]
]

tells_more : (track from end to to' : ℕ) (p q : Packet) (ps qs : List Packet) → Rise track from to (p ∷ ps) → Rise track from to' (q ∷ qs) → place p ≡ place q → p.time ≡ q.time
    → (d : Option Difference) → Tells (place p + 1) end ps qs d → Tells from end (p ∷ ps) (q ∷ qs) d
tells_more track from end to to' p q ps qs r s e t None h = agree_more track from to to' end p q ps qs r s e t h
tells_more track from end to to' p q ps qs r s e t (Some d) h =
    let m = r.1 in
    let b = h.begins in
    record {
      begins = omega arith;
      ends = h.ends;
      ours_is = h.ours_is ∙ sym (past (rank d.pos) p ps (omega arith));
      other_is = h.other_is ∙ sym (past (rank d.pos) q qs (omega arith));
      two = h.two;
      first = agree_more track from to to' (rank d.pos) p q ps qs r s e t h.first;
    }

unlike : (p q : Packet) → same_heads (p.pos, p.time) (q.pos, q.time) ≡ false → place p ≡ place q → p.time ≡ q.time → ⊥
unlike p q f e t =
    let a = eq-eqb (place p) (place q) e in
    let b : int_le p.time q.time ≡ true = grind (arith, ints) in
    let c : int_le q.time p.time ≡ true = grind (arith, ints) in
    let g : true ≡ false = rw (a, b, c) at f in
    true≢false g

alike : (p q : Packet) → same_heads (p.pos, p.time) (q.pos, q.time) ≡ true → (place p ≡ place q) × (p.time ≡ q.time)
alike p q f =
    let a = and_parts (place p == place q) _ f in
    let b = and_parts (int_le p.time q.time) (int_le q.time p.time) a.1 in
    let b0 = b.0 in
    let b1 = b.1 in
    (eqb-true (place p) (place q) a.0, grind (arith, ints))

-- both have one, and they are not the same
two_heads : (track from end to to' : ℕ) (p q : Packet) (ps qs : List Packet) → Rise track from to (p ∷ ps) → Rise track from to' (q ∷ qs) → place p < end → place q < end
    → same_heads (p.pos, p.time) (q.pos, q.time) ≡ false → Tells from end (p ∷ ps) (q ∷ qs) (Some (of_two p.pos p.time q.pos q.time))
two_heads track from end to to' p q ps qs r s l m f = elim (cases_order (place p) (place q)) [
  | inl e ↦
      let a = le-ltb (place p) (place q) (omega arith) in
      let b = le-ltb (place q) (place p) (omega arith) in
      let u = unlike p q f e in
      rw (a, b) (record {
        begins = r.1;
        ends = l;
        ours_is = sym (here p ps);
        other_is = sym (here q qs) ∙ ap (λ x. time_at x (q ∷ qs)) (sym e);
        two = λ t. u (some_some p.time q.time t);
        first = λ x a b. absent track (place p) to x (p ∷ ps) (r.0, omega arith, r.2) b ∙ sym (absent track (place q) to' x (q ∷ qs) (s.0, omega arith, s.2) (omega arith));
      })
  | inr other ↦ elim other [
    | inl less ↦
        let a = lt-ltb (place p) (place q) less in
        rw a (ours_alone track from end to p ps (q ∷ qs) r l (λ x b. absent track (place q) to' x (q ∷ qs) (s.0, omega arith, s.2) (omega arith)))
    | inr more ↦
        let a = le-ltb (place p) (place q) (omega arith) in
        let b = lt-ltb (place q) (place p) more in
        rw (a, b) (other_alone track from end to' q (p ∷ ps) qs s m (λ x c. absent track (place p) to x (p ∷ ps) (r.0, omega arith, r.2) (omega arith)))
  ]
]
  where
    or_zero : Option ℤ → ℤ → ℤ
    or_zero (Some z) d = z
    or_zero None d = d

    some_some : (a b : ℤ) → Some a ≡ Some b → a ≡ b
    some_some a b e = ap (λ (o : Option ℤ). or_zero o a) e

pub tells : (track end from to to' : ℕ) (ps qs : List Packet) → Rise track from to ps → Rise track from to' qs → Tells from end ps qs (difference_of end ps qs)
tells track end from to to' [] [] r s = λ x a b. refl
tells track end from to to' [] (q ∷ qs) r s = elim (cases_Bool (is_before end q)) [
  | inl y ↦ rw y (other_alone track from end to' q [] qs s (ltb-true (place q) end y) (λ x l. refl))
  | inr n ↦
      let l = ltb-false (place q) end n in
      rw n (λ x a b. sym (absent track (place q) to' x (q ∷ qs) (s.0, omega arith, s.2) (omega arith)))
]
tells track end from to to' (p ∷ ps) [] r s = elim (cases_Bool (is_before end p)) [
  | inl y ↦ rw y (ours_alone track from end to p ps [] r (ltb-true (place p) end y) (λ x l. refl))
  | inr n ↦
      let l = ltb-false (place p) end n in
      rw n (λ x a b. absent track (place p) to x (p ∷ ps) (r.0, omega arith, r.2) (omega arith))
]
tells track end from to to' (p ∷ ps) (q ∷ qs) r s = elim (cases_Bool (is_before end p)) [
  | inl y ↦
      let l = ltb-true (place p) end y in
      elim (cases_Bool (is_before end q)) [
        | inl z ↦
            let m = ltb-true (place q) end z in
            elim (cases_Bool (same_heads (p.pos, p.time) (q.pos, q.time))) [
              | inl same ↦
                  let e = alike p q same in
                  let s' = subst (λ n. Rise track n to' qs) (ap (λ n. n + 1) (sym e.0)) s.2 in
                  let more = tells track end (place p + 1) to to' ps qs r.2 s' in
                  rw (y, z, same) (tells_more track from end to to' p q ps qs r s e.0 e.1 (difference_of end ps qs) more)
              | inr other ↦ rw (y, z, other) (two_heads track from end to to' p q ps qs r s l m other)
            ]
        | inr z ↦
            let m = ltb-false (place q) end z in
            rw (y, z) (ours_alone track from end to p ps (q ∷ qs) r l (λ x a. absent track (place q) to' x (q ∷ qs) (s.0, omega arith, s.2) (omega arith)))
      ]
  | inr y ↦
      let l = ltb-false (place p) end y in
      elim (cases_Bool (is_before end q)) [
        | inl z ↦
            let m = ltb-true (place q) end z in
            rw (y, z) (other_alone track from end to' q (p ∷ ps) qs s m (λ x a. absent track (place p) to x (p ∷ ps) (r.0, omega arith, r.2) (omega arith)))
        | inr z ↦
            let m = ltb-false (place q) end z in
            rw (y, z) (λ x a b. absent track (place p) to x (p ∷ ps) (r.0, omega arith, r.2) (omega arith) ∙ sym (absent track (place q) to' x (q ∷ qs) (s.0, omega arith, s.2) (omega arith)))
      ]
]

-- ---- of two queues, where both intervals have a place

seen_from : (from x : ℕ) (ps : List Packet) → from ≤ x → time_at x (from_place from ps) ≡ time_at x ps
seen_from from x [] l = refl
seen_from from x (p ∷ ps) l =
    let more = seen_from from x ps l in
    elim (cases_Bool (is_from from p)) [
      | inl y ↦ elim (cases_Bool (place p == x)) [ inl z ↦ rw (y, z) refl | inr z ↦ rw (y, z) more ]
      | inr n ↦
          let m = leb-false from (place p) n in
          let z = ne_eqb (place p) x (λ e. omega arith) in
          rw (n, z) more
    ]

tells_whole : (from to : ℕ) (ps qs : List Packet) (d : Option Difference) → Tells from to (from_place from ps) (from_place from qs) d → Tells from to ps qs d
tells_whole from to ps qs None h = λ x a b. sym (seen_from from x ps a) ∙ h x a b ∙ seen_from from x qs a
tells_whole from to ps qs (Some d) h = record {
  begins = h.begins;
  ends = h.ends;
  ours_is = h.ours_is ∙ seen_from from (rank d.pos) ps h.begins;
  other_is = h.other_is ∙ seen_from from (rank d.pos) qs h.begins;
  two = h.two;
  first = λ x a b. sym (seen_from from x ps a) ∙ h.first x a b ∙ seen_from from x qs a;
}

from_both : (q o : QueueState) → Rise q.track (rank q.from) (rank q.to) q.packets → Rise o.track (rank o.from) (rank o.to) o.packets → Meet q o
    → (shared_from q o ≤ rank q.to) × (shared_from q o ≤ rank o.to)
from_both q o r s m =
    let a = rise_bounds q.track (rank q.from) (rank q.to) q.packets r in
    let b = rise_bounds o.track (rank o.from) (rank o.to) o.packets s in
    let c = m.ours in
    let d = m.other in
    elim (cases_Bool (nat_le (rank q.from) (rank o.from))) [ inl y ↦ rw y (d, b) | inr n ↦ rw n (a, c) ]

compared : (q o : QueueState) → Rise q.track (rank q.from) (rank q.to) q.packets → Rise o.track (rank o.from) (rank o.to) o.packets → Meet q o
    → Compared q o (difference_of (shared_to q o) (drop (length (before (shared_from q o) q.packets)) q.packets) (drop (length (before (shared_from q o) o.packets)) o.packets))
compared q o r s m =
    let f = shared_from q o in
    let l = from_both q o r s m in
    let s' : Rise q.track (rank o.from) (rank o.to) o.packets = subst (λ t. Rise t (rank o.from) (rank o.to) o.packets) m.one_track s in
    let a = drop_before_is q.track (rank q.from) (rank q.to) f q.packets r in
    let b = drop_before_is q.track (rank o.from) (rank o.to) f o.packets s' in
    let ours = rise_from q.track (rank q.from) (rank q.to) f q.packets l.0 r in
    let other = rise_from q.track (rank o.from) (rank o.to) f o.packets l.1 s' in
    let t = tells q.track (shared_to q o) f (rank q.to) (rank o.to) (from_place f q.packets) (from_place f o.packets) ours other in
    let u = tells_whole f (shared_to q o) q.packets o.packets (difference_of (shared_to q o) (from_place f q.packets) (from_place f o.packets)) t in
    subst (λ (ps : List Packet). Compared q o (difference_of (shared_to q o) ps (drop (length (before f o.packets)) o.packets))) (sym a)
    (subst (λ (ps : List Packet). Compared q o (difference_of (shared_to q o) (from_place f q.packets) ps)) (sym b) u)

pub compared_seen : (q o q' o' : QueueState) → q ≡ q' → o ≡ o' → Rise q.track (rank q.from) (rank q.to) q.packets → Rise o.track (rank o.from) (rank o.to) o.packets → Meet q' o'
    → (from to : Pos) → from ≡ later q.from o.from → to ≡ earlier q.to o.to → (d : Option Difference)
    → d ≡ difference_of (rank to) (drop (length (before (rank from) q.packets)) q.packets) (drop (length (before (rank from) o.packets)) o.packets) → Compared q' o' d
compared_seen q o q' o' e f r s m from to g h d i =
    let m' = subst (λ (a : QueueState). Meet a o) (sym e) (subst (λ (b : QueueState). Meet q' b) (sym f) m) in
    let c = compared q o r s m' in
    let j = i ∙ ap (λ (p : Pos). difference_of (rank p) (drop (length (before (rank from) q.packets)) q.packets) (drop (length (before (rank from) o.packets)) o.packets)) h
    ∙ ap (λ (p : Pos). difference_of (rank (earlier q.to o.to)) (drop (length (before (rank p) q.packets)) q.packets) (drop (length (before (rank p) o.packets)) o.packets)) g in
    subst (λ (b : QueueState). Compared q' b d) f (subst (λ (a : QueueState). Compared a o d) e (subst (λ (x : Option Difference). Compared q o x) (sym j) c))
