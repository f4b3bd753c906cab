-- A selection that changes.
use Rattle.std.proofs.Common.{◌≡◌, ℕ, ◌≤◌, Bool, true, false, not, ◌&&◌, ◌||◌, List, [], Option, Some, None, refl, ap, sym, ◌∙◌, ◌⊎◌, inl, inr}
use Rattle.std.specs.Prelude.{IfSome, if◌then◌else◌}
use Rattle.std.specs.Option.{option_map}
use Rattle.std.proofs.lemmas.Bool.{cases_Bool, or_parts}
use Rattle.mc_packet.specs.declared.choice.Choice.{Choice}
use Rattle.mc_packet.specs.declared.choice.Kind.{Kind}
use Rattle.mc_packet.specs.declared.walk.Ending.{Ending}
use Rattle.mc_packet.specs.declared.packet.Packet.{Packet}
use Rattle.mc_packet.specs.Choices.{has, is_known}
use Rattle.mc_journal.specs.Told.{Told}
use Rattle.mc_journal.specs.Ranges.{Span, Range}
use Rattle.mc_journal.specs.Stands.{keep_tracks}
use Rattle.mc_journal.proofs.Facts.{IsSound, IsRead, Facts}

kept_if : (o : Option Span) (b : Bool) (P : Span → Type 0) → (b ≡ true → IfSome o P) → IfSome (if b then o else None) P
kept_if o true P h = h refl
kept_if o false P h = tt

-- a span of a track that is not selected is none
no_span : (o : Option Span) (c : Bool) → IfSome o (λ s. c ≡ true) → c ≡ false → o ≡ None
no_span None c h e = refl
no_span (Some s) c h e = absurd (cc)

kept_none : (o : Option Span) (b : Bool) → o ≡ None → (if b then o else None) ≡ None
kept_none o true h = h
kept_none o false h = refl

of_true : (o : Option Span) (c : Bool) → c ≡ true → IfSome o (λ s. c ≡ true)
of_true None c h = tt
of_true (Some s) c h = h

ahead_by : (o : Option Span) (c : Bool) (n : ℕ) → IfSome o (λ s. c ≡ true) → (c ≡ true → IfSome o (λ s. s.from ≤ n)) → IfSome o (λ s. s.from ≤ n)
ahead_by None c n own h = tt
ahead_by (Some s) c n own h = h own

-- the tests of one track: selected now, selected before, waiting before, added
one_added : (a b w : Bool) → a ≡ (true && (not b || w)) → a ≡ true → (b ≡ false) ⊎ (w ≡ true)
one_added a true w e h = inr (sym e ∙ h)
one_added a false w e h = inl refl

one_kept : (a b w : Bool) → a ≡ (true && (not b || w)) → a ≡ false → (b ≡ true) × (w ≡ false)
one_kept a true w e h = (refl, sym e ∙ h)
one_kept a false w e h = absurd (cc)

pub switch_step : (ps : List Packet) (E : Ending) (known : Kind → ℕ → Bool) (set : Choice) (current : Option Range) (others : List Range)
    (pend : Bool) (waiting : ℕ → Bool) (place : ℕ → ℕ) (gave : ℕ → List Told) (from : ℕ → ℕ) (set' added : Choice) (from' : ℕ → ℕ) (none : Bool)
    → Facts ps E known set current others pend waiting place gave from
    → is_known known set' ≡ true
    → ((k : ℕ) → has added k ≡ (has set' k && (not (has set k) || waiting k)))
    → Facts ps E known set' (if none then None else option_map (keep_tracks set') current) [] pend (λ k. if has added k then true else waiting k) place
    (λ k. if has added k then [] else gave k) (λ k. if has added k then from' k else from k)
switch_step ps E known set current others pend waiting place gave from set' added from' none f fits adds = record {
  fits = fits;
  here = now none current f.here;
  there = tt;
  blank = λ k has_k w. elim (cases_Bool (has added k)) [
    | inl y ↦ rw y refl
    | inr n ↦ let both = kept k has_k n in rw n (f.blank k both.0 (rw n at w))
  ];
  going = λ k has_k w. elim (cases_Bool (has added k)) [
    | inl y ↦ absurd (let z = rw y at w in (let p = or_parts pend true z in cc))
    | inr n ↦ let both = kept k has_k n in rw n (f.going k both.0 (rw n at w))
  ];
}
  where
    old : (k : ℕ) → has set' k ≡ true → has added k ≡ (true && (not (has set k) || waiting k))
    old k has_k = adds k ∙ ap (λ c. c && (not (has set k) || waiting k)) has_k

    kept : (k : ℕ) → has set' k ≡ true → has added k ≡ false → (has set k ≡ true) × (waiting k ≡ false)
    kept k has_k n = one_kept (has added k) (has set k) (waiting k) (old k has_k) n

    now : (none : Bool) (o : Option Range) → IfSome o (λ r. IsSound ps E set r × (pend ≡ false) × IsRead set waiting place r)
        → IfSome (if none then None else option_map (keep_tracks set') o) (λ r. IsSound ps E set' r × (pend ≡ false) × IsRead set' (λ k. if has added k then true else waiting k) place r)
    now true o h = tt
    now false None h = tt
    now false (Some r) h = (
      record {
        ended = h.0.ended;
        marked = λ k. kept_if (r.spans k) (has set' k) _ (λ y. h.0.marked k);
        owned = λ k. kept_if (r.spans k) (has set' k) _ (λ y. of_true (r.spans k) (has set' k) y);
      },
      h.1,
      record {
        ahead = λ k has_k. kept_if (r.spans k) (has set' k) _ (λ y. ahead_by (r.spans k) (has set k) (place k) (h.0.owned k) (h.2.ahead k));
        blank = λ k has_k w. kept_none (r.spans k) (has set' k) (elim (cases_Bool (has added k)) [
          | inl y ↦ elim (one_added (has added k) (has set k) (waiting k) (old k has_k) y) [
            | inl n ↦ no_span (r.spans k) (has set k) (h.0.owned k) n
            | inr v ↦ elim (cases_Bool (has set k)) [
              | inl z ↦ h.2.blank k z v
              | inr n ↦ no_span (r.spans k) (has set k) (h.0.owned k) n
            ]
          ]
          | inr n ↦ absurd (let e = (kept k has_k n).1 in let v : waiting k ≡ true = rw n at w in cc)
        ]);
      },
    )
