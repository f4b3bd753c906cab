-- What joins and drops leave of what a demuxer rests on, and what they write.
use Rattle.std.proofs.Common.{◌≡◌, ℕ, zero, suc, ◌≤◌, Option, List, [], ◌∷◌, ◌++◌, refl, ap, sym, subst, ◌∙◌, arith, length, length-append, append_assoc}
use Rattle.std.specs.Prelude.{map}
use Rattle.std.specs.List.{AllByRecursion}
use Rattle.std.proofs.lemmas.List.{append-nil}
use Rattle.mc_packet.specs.declared.choice.Choice.{Choice}
use Rattle.mc_packet.specs.declared.cache.Heads.{Heads}
use Rattle.mc_journal.specs.declared.record.DemuxRecord.{DemuxRecord}
use Rattle.mc_journal.specs.declared.record.DemuxRecord.TheVariants.{Opened, Sought, Switched, Found, Fed, Failed, Starved, Dropped, Joined, Gave, Ended, Overfull, Faulted, Wanting, Shown, Refused}
use Rattle.mc_journal.specs.declared.record.Removal.{Removal}
use Rattle.mc_cache.specs.Cache.{CacheState, IsCache, ranges_of, weight_of}
use Rattle.mc_calls.specs.declared.waiting.Target.{Target}
use Rattle.mc_calls.specs.Demuxers.{IsPlaced}
use Rattle.mc_calls.specs.Records.{IsExtra, IsLimitDrop}
use Rattle.mc_calls.specs.Settling.{Settles, with_drops, with_joins}
use Rattle.mc_calls.proofs.SameTracks.{placed_same}
use Rattle.mc_calls.proofs.Roomy.{tied_up}
use Rattle.mc_calls.proofs.Trimmed.{trimmed}

-- ---- what is written

-- behind a journal stand drops and joins of the caller
pub record WritesExtras (by : ℕ) (old new : List DemuxRecord) : Type 0 where
  pub extras : List DemuxRecord
  pub grows : new ≡ old ++ extras
  pub are : AllByRecursion (IsExtra by) extras

all_two : (P : DemuxRecord → Type 0) (xs ys : List DemuxRecord) → AllByRecursion P xs → AllByRecursion P ys → AllByRecursion P (xs ++ ys)
all_two P [] ys h k = k
all_two P (x ∷ xs) ys h k = (h.0, all_two P xs ys h.1 k)

pub extras_both : (by : ℕ) (a b c : List DemuxRecord) → WritesExtras by a b → WritesExtras by b c → WritesExtras by a c
extras_both by a b c x y = record {
  extras = x.extras ++ y.extras;
  grows = y.grows ∙ ap (λ (xs : List DemuxRecord). xs ++ y.extras) x.grows ∙ append_assoc a x.extras y.extras;
  are = all_two (IsExtra by) x.extras y.extras x.are y.are;
}

joins_extras : (by : ℕ) (j : List DemuxRecord) (n : ℕ) → WritesExtras by j (with_joins by j n)
joins_extras by j zero = record { extras = []; grows = sym (append-nil j); are = tt }
joins_extras by j (suc n) =
    extras_both by j (with_joins by j n) (with_joins by j n ++ Joined by ∷ []) (joins_extras by j n) (record { extras = Joined by ∷ []; grows = refl; are = (refl, tt) })

all_drops : (by : ℕ) (drops : List Removal) → AllByRecursion (IsExtra by) (map (λ drop. Dropped by drop) drops)
all_drops by [] = tt
all_drops by (d ∷ drops) = (refl, all_drops by drops)

pub drops_extras : (by : ℕ) (j : List DemuxRecord) (drops : List Removal) → WritesExtras by j (with_drops by j drops)
drops_extras by j drops = record { extras = map (λ drop. Dropped by drop) drops; grows = refl; are = all_drops by drops }

limit_extra : (by : ℕ) (r : DemuxRecord) → IsLimitDrop by r → IsExtra by r
limit_extra by (Dropped n removal) h = h.0
limit_extra by (Opened n set) h = absurd h
limit_extra by (Sought n set t dir how) h = absurd h
limit_extra by (Switched n set added t) h = absurd h
limit_extra by (Found n starts) h = absurd h
limit_extra by (Fed n from to took ending) h = absurd h
limit_extra by (Failed n before after) h = absurd h
limit_extra by (Starved n) h = absurd h
limit_extra by (Joined n) h = absurd h
limit_extra by (Gave n track pos time len sum sync key) h = absurd h
limit_extra by (Ended n track ending) h = absurd h
limit_extra by (Overfull n track forward max) h = absurd h
limit_extra by (Faulted n track before after) h = absurd h
limit_extra by (Wanting n track) h = absurd h
limit_extra by (Shown n view) h = absurd h
limit_extra by (Refused n why) h = absurd h

pub limit_extras : (by : ℕ) (xs : List DemuxRecord) → AllByRecursion (IsLimitDrop by) xs → AllByRecursion (IsExtra by) xs
limit_extras by [] h = tt
limit_extras by (x ∷ xs) h = (limit_extra by x h.0, limit_extras by xs h.1)

-- ---- what is left

pub record IsSettled (by : ℕ) (set : Choice) (heads : Heads) (waiting : Choice) (seeking : Option Target) (c₀ : CacheState) (j₀ : List DemuxRecord) (c : CacheState) (j : List DemuxRecord) : Type 0 where
  pub placed : IsPlaced set heads waiting seeking c₀.current → IsPlaced set heads waiting seeking c.current
  pub sets : AllByRecursion (λ r. r.set ≡ set) (ranges_of c₀) → AllByRecursion (λ r. r.set ≡ set) (ranges_of c)
  pub lighter : weight_of (ranges_of c) ≤ weight_of (ranges_of c₀)
  pub limits_are : c.limits ≡ c₀.limits
  pub wrote : WritesExtras by j₀ j

pub settled : (by : ℕ) (set : Choice) (heads : Heads) (waiting : Choice) (seeking : Option Target) (c₀ : CacheState) (j₀ : List DemuxRecord) (c : CacheState) (j : List DemuxRecord)
    → IsCache c₀ → Settles by heads c₀ j₀ c j → IsSettled by set heads waiting seeking c₀ j₀ c j
settled by set heads waiting seeking c₀ j₀ c j i s =
    let t = tied_up c₀ s.cache s.joins.number s.joins.drops i s.joins.joins in
    let d = trimmed by set heads waiting seeking s.cache s.journal c j s.trims in
    let l = t.lighter in
    let m = d.lighter in
    let told : WritesExtras by j₀ s.journal =
    subst (λ (x : List DemuxRecord). WritesExtras by j₀ x) (sym s.joins.told)
    (extras_both by j₀ (with_joins by j₀ s.joins.number) (with_drops by (with_joins by j₀ s.joins.number) s.joins.drops) (joins_extras by j₀ s.joins.number)
    (drops_extras by (with_joins by j₀ s.joins.number) s.joins.drops)) in
    record {
      placed = λ p. d.placed (placed_same set heads waiting seeking c₀.current s.cache.current t.same p);
      sets = λ a. d.sets (t.sets set a);
      lighter = omega arith;
      limits_are = d.limits_are ∙ s.joins.joins.limits_is;
      wrote = extras_both by j₀ s.journal j told (record { extras = d.drops; grows = d.grows; are = limit_extras by d.drops d.are });
    }

pub longer : (by : ℕ) (j₀ j : List DemuxRecord) → WritesExtras by j₀ j → length j₀ ≤ length j
longer by j₀ j w =
    let e = ap (λ (xs : List DemuxRecord). length xs) w.grows in
    let n = length-append j₀ w.extras in
    omega arith
