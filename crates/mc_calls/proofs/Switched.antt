-- What a selection leaves, and its records.
use Rattle.std.proofs.Common.{◌≡◌, ℕ, ◌+◌, true, false, ◌&&◌, Option, Some, None, List, [], ◌∷◌, ◌++◌, ℤ, refl, ap, sym, subst, ◌∙◌, append_assoc}
use Rattle.std.specs.Prelude.{nat_eq}
use Rattle.std.specs.Option.{option_eq}
use Rattle.std.proofs.lemmas.Bool.{eq-eqb}
use Rattle.std.specs.List.{AllByRecursion}
use Rattle.mc_packet.specs.declared.choice.Choice.{Choice}
use Rattle.mc_journal.specs.declared.record.DemuxRecord.{DemuxRecord}
use Rattle.mc_journal.specs.declared.record.DemuxRecord.TheVariants.{Dropped, Switched}
use Rattle.mc_journal.specs.declared.record.Removal.{Removal}
use Rattle.mc_packet.specs.Choices.{lead_of, nothing}
use Rattle.mc_cache.specs.Cache.{CacheState, IsCache}
use Rattle.mc_cache.specs.Changing.{IsRetracked}
use Rattle.mc_calls.specs.State.{DemuxState}
use Rattle.mc_calls.specs.Keeping.{IsRoomy}
use Rattle.mc_calls.specs.Records.{IsExtra, IsLimitDrop}
use Rattle.mc_calls.specs.Selecting.{Switches, added_to, own_records, sought_again, told_drops, waiting_after}
use Rattle.mc_calls.specs.Trimming.{Trims}
use Rattle.mc_calls.proofs.Trimmed.{trimmed}

-- ---- room that was made before changes nothing

switches_room : (old new : DemuxState) (by : ℕ) (set : Choice) (at : ℤ) (n : ℕ) → Switches by set at (record old { spare = n }) new → Switches by set at old new
switches_room old new by set at n k = record {
  drops = k.drops;
  left = k.left;
  left_is = k.left_is;
  retracked = k.retracked;
  trims = k.trims;
  changed = k.changed;
  limits_are = k.limits_are;
  wrote = k.wrote;
}

pub roomy_switches : (old mid new : DemuxState) (by : ℕ) (set : Choice) (at : ℤ) → IsRoomy old mid → Switches by set at mid new → Switches by set at old new
roomy_switches old mid new by set at r k = switches_room old new by set at mid.spare (subst (λ (d : DemuxState). Switches by set at d new) r.changed k)

-- ---- its records

told_extra : (by : ℕ) (ms : List Removal) → AllByRecursion (IsExtra by) (told_drops by ms)
told_extra by [] = tt
told_extra by (m ∷ ms) = (refl, told_extra by ms)

limit_extra : (by : ℕ) (r : DemuxRecord) → IsLimitDrop by r → IsExtra by r
limit_extra by (Dropped n removal) h = h.0
limit_extra by _ h = absurd h

limits_extra : (by : ℕ) (rs : List DemuxRecord) → AllByRecursion (IsLimitDrop by) rs → AllByRecursion (IsExtra by) rs
limits_extra by [] h = tt
limits_extra by (r ∷ rs) h = (limit_extra by r h.0, limits_extra by rs h.1)

all_append : (P : DemuxRecord → Type 0) (xs ys : List DemuxRecord) → AllByRecursion P xs → AllByRecursion P ys → AllByRecursion P (xs ++ ys)
all_append P [] ys h k = k
all_append P (x ∷ xs) ys h k = (h.0, all_append P xs ys h.1 k)

-- ---- what was done by steps is the selection

pub switches_now : (old now : DemuxState) (by : ℕ) (set : Choice) (at same : ℤ) (added waits : Choice) (lead : Option ℕ) (drops told : List Removal) (left c : CacheState)
    (written j : List DemuxRecord) (ended : Choice) (spare : ℕ)
    → old ≡ now → IsCache left → IsRetracked set drops old.cache left → told ≡ drops
    → written ≡ old.journal ++ ((Switched by set added same ∷ sought_again by set old.seeking) ++ told_drops by told)
    → Trims by old.heads left written c j → same ≡ at → added ≡ added_to set old → waits ≡ waiting_after old.seeking added → lead ≡ lead_of set → ended ≡ nothing
    → Switches by set at now (record old {
      cache = c;
      set = set;
      waiting = waits;
      switch = record { lead = lead; at = same };
      failure = None;
      ended = ended;
      number = old.number + 1;
      kept = None;
      fed = false;
      journal = j;
      spare = spare;
    })
switches_now old now by set at same added waits lead drops told left c written j ended spare was il r td w t ea ed ew el ee =
    let new : Choice → Option ℕ → ℤ → Choice → DemuxState = λ (x : Choice) (l : Option ℕ) (z : ℤ) (n : Choice). record old {
      cache = c;
      set = set;
      waiting = x;
      switch = record { lead = l; at = z };
      failure = None;
      ended = n;
      number = old.number + 1;
      kept = None;
      fed = false;
      journal = j;
      spare = spare;
    } in
    let first : old.journal ++ ((Switched by set added same ∷ sought_again by set old.seeking) ++ told_drops by told) ≡ old.journal ++ (own_records by set same old ++ told_drops by drops) =
    ap (λ (x : Choice). old.journal ++ ((Switched by set x same ∷ sought_again by set old.seeking) ++ told_drops by told)) ed
    ∙ ap (λ (x : List Removal). old.journal ++ (own_records by set same old ++ told_drops by x)) td in
    let trims = subst (λ (z : ℤ). Trims by old.heads left (old.journal ++ (own_records by set z old ++ told_drops by drops)) c j) ea
    (subst (λ (x : List DemuxRecord). Trims by old.heads left x c j) (w ∙ first) t) in
    let own = own_records by set at old in
    let gone = told_drops by drops in
    let waiting = waiting_after old.seeking (added_to set old) in
    let d = trimmed by set old.heads waiting old.seeking left (old.journal ++ (own ++ gone)) c j trims in
    let all : new waits lead same ended ≡ new waiting (lead_of set) at nothing =
    ap (λ (x : Choice). new x lead same ended) (ew ∙ ap (λ (x : Choice). waiting_after old.seeking x) ed) ∙ ap (λ (l : Option ℕ). new waiting l same ended) el
    ∙ ap (λ (z : ℤ). new waiting (lead_of set) z ended) ea ∙ ap (λ (n : Choice). new waiting (lead_of set) at n) ee in
    subst (λ (x : DemuxState). Switches by set at x (new waits lead same ended)) was (record {
      drops = drops;
      left = left;
      left_is = il;
      retracked = r;
      trims = trims;
      changed = all;
      limits_are = d.limits_are ∙ r.rest.limits_is;
      wrote = record {
        extras = gone ++ d.drops;
        grows = d.grows ∙ append_assoc old.journal (own ++ gone) d.drops ∙ ap (λ (xs : List DemuxRecord). old.journal ++ xs) (append_assoc own gone d.drops);
        are = all_append (IsExtra by) gone d.drops (told_extra by drops) (limits_extra by d.drops d.are);
      };
    })

-- ---- sets that differ

own_same : (o : Option ℕ) → option_eq nat_eq o o ≡ true
own_same None = refl
own_same (Some n) = eq-eqb n n refl

pub differ : (a b : Choice) → false ≡ (option_eq nat_eq a.video b.video && (option_eq nat_eq a.audio b.audio && option_eq nat_eq a.sub b.sub)) → a ≡ b → ⊥
differ a b h e =
    let s : false ≡ (option_eq nat_eq a.video a.video && (option_eq nat_eq a.audio a.audio && option_eq nat_eq a.sub a.sub)) =
    subst (λ (x : Choice). false ≡ (option_eq nat_eq a.video x.video && (option_eq nat_eq a.audio x.audio && option_eq nat_eq a.sub x.sub))) (sym e) h in
    let t : false ≡ true = rw (own_same a.video, own_same a.audio, own_same a.sub) at s in
    cc
