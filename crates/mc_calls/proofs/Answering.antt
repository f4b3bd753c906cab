-- Each answer of a reader leaves a demuxer that stands for the film.
use Rattle.std.proofs.Common.{◌≡◌, ℕ, ◌≤◌, Bool, true, false, Option, Some, None, List, [], ◌∷◌, ◌++◌, refl, sym, subst, ◌∙◌, append_assoc}
use Rattle.std.specs.Prelude.{if◌then◌else◌, reverse, nat_le}
use Rattle.std.proofs.lemmas.Bool.Decides.{nat_tests}
use Rattle.std.proofs.Common.{arith}
use Rattle.mc_packet.specs.declared.packet.Packet.{Packet}
use Rattle.mc_packet.specs.declared.choice.Choice.{Choice}
use Rattle.mc_packet.specs.declared.cache.Heads.{Heads}
use Rattle.mc_packet.specs.declared.cache.Limits.{Limits}
use Rattle.mc_packet.specs.declared.walk.Ending.{Ending}
use Rattle.mc_journal.specs.declared.record.DemuxRecord.{DemuxRecord}
use Rattle.mc_journal.specs.declared.record.DemuxRecord.TheVariants.{Ended, Overfull as OverfullRecord, Faulted, Wanting as WantingRecord}
use Rattle.mc_journal.specs.Told.{gave_by}
use Rattle.mc_packet.specs.Choices.{has}
use Rattle.mc_journal.specs.Films.{Film}
use Rattle.mc_journal.specs.Used.{is_still}
use Rattle.mc_calls.specs.declared.answer.Reading.TheVariants.{Gave, NotYet, End, Overfull, Unselected}
use Rattle.mc_calls.specs.declared.waiting.Failure.{Failure}
use Rattle.mc_calls.specs.declared.waiting.Failure.TheVariants.{Failed, Starved}
use Rattle.mc_cache.specs.Cache.{CacheState}
use Rattle.mc_calls.specs.Trimming.{Trims}
use Rattle.mc_calls.specs.State.{DemuxState, next_in, end_in, forward_of}
use Rattle.mc_calls.specs.Demuxers.{IsDemux, IsPlaced}
use Rattle.mc_calls.specs.Readings.{Gives, ended_after, heads_after, reading_by, reading_of, record_of}
use Rattle.mc_calls.specs.Film.{Fits, StandsFor}
use Rattle.mc_calls.proofs.Failing.{reverse-push}
use Rattle.mc_calls.proofs.Forward.{forward-is}
use Rattle.mc_calls.proofs.Giving.{gave_step}
use Rattle.mc_calls.proofs.Quiet.{ended_step, overfull_step, faulted_step, wanting_step}
use Rattle.mc_calls.proofs.Recalled.{SaysSame, gives_tied}
use Rattle.mc_calls.proofs.Resting.{have_heads, own_set}
use Rattle.mc_calls.proofs.Trimmed.{trimmed}
use Rattle.mc_calls.proofs.Trims.{trims_keep}

-- the record may come next, and then heads and told ends are those
pub record IsTold (film : Film) (d : DemuxState) (heads : Heads) (ended : Choice) (own : DemuxRecord) : Type 0 where
  pub fits : Fits film d.cache.limits d.set d.cache.current d.cache.others heads d.seeking d.waiting d.switch d.failure ended (own ∷ reverse d.journal)
  pub still : is_still film.packets (own ∷ reverse d.journal) ≡ true
  pub says : SaysSame (own ∷ reverse d.journal) (reverse d.journal)

is_own : (film : Film) (d : DemuxState) (heads : Heads) (ended : Choice) (a own : DemuxRecord) → Some a ≡ Some own → IsTold film d heads ended a → IsTold film d heads ended own
is_own film d heads ended a own e t = subst (λ (x : DemuxRecord). IsTold film d heads ended x) (some a own e) t
  where
    some : (a b : DemuxRecord) → Some a ≡ Some b → a ≡ b
    some a b e = cc

full_told : (film : Film) (d : DemuxState) (by track : ℕ) (b : Bool) (own : DemuxRecord) → StandsFor film d → IsDemux d → has d.set track ≡ true
    → next_in d.set d.heads track d.cache.current ≡ None → end_in track d.cache.current ≡ None → d.failure ≡ None
    → nat_le d.cache.limits.forward (forward_of d) ≡ b
    → record_of by track (if b then Overfull (forward_of d) d.cache.limits.forward else NotYet) ≡ Some own
    → IsTold film d (heads_after track (if b then Overfull (forward_of d) d.cache.limits.forward else NotYet) d)
    (ended_after track (if b then Overfull (forward_of d) d.cache.limits.forward else NotYet) d) own
full_told film d by track false own s i sel none open_end sound le r = absurd (cc)
full_told film d by track true own s i sel none open_end sound le r =
    let h = reverse d.journal in
    let over : d.cache.limits.forward ≤ forward_of d = grind (arith, nat_tests) in
    let counts = forward-is film d.cache.limits d.set d.cache.current d.cache.others d.heads d.seeking d.waiting d.switch d.failure d.ended h
    i.cache.current (own_set d i) (have_heads d.set d.heads d.waiting d.seeking d.cache.current i.placed) s.fits in
    is_own film d d.heads d.ended (OverfullRecord by track (forward_of d) d.cache.limits.forward) own r (record {
      fits = overfull_step film d.cache.limits d.set d.cache.current d.cache.others d.heads d.seeking d.waiting d.switch d.failure d.ended h by track (forward_of d)
          s.fits s.still sel none open_end sound (sym counts) over;
      still = refl;
      says = record { switch = refl; number = refl; upto = refl; marks = refl };
    })

told_by : (film : Film) (d : DemuxState) (by track : ℕ) (o : Option Packet) (e : Option Ending) (f : Option Failure) (own : DemuxRecord) → StandsFor film d → IsDemux d
    → has d.set track ≡ true → next_in d.set d.heads track d.cache.current ≡ o → end_in track d.cache.current ≡ e → d.failure ≡ f
    → record_of by track (reading_by o e f (forward_of d) d.cache.limits.forward) ≡ Some own
    → IsTold film d (heads_after track (reading_by o e f (forward_of d) d.cache.limits.forward) d) (ended_after track (reading_by o e f (forward_of d) d.cache.limits.forward) d) own
told_by film d by track (Some p) e f own s i sel next end bad r =
    is_own film d (heads_after track (Gave p) d) d.ended (gave_by by p) own r (record {
      fits = gave_step film d.cache.limits d.set d.cache.current d.cache.others d.heads d.seeking d.waiting d.switch d.failure d.ended (reverse d.journal) by track p s.fits s.still sel next;
      still = refl;
      says = record { switch = refl; number = refl; upto = refl; marks = refl };
    })
told_by film d by track None (Some ending) f own s i sel next end bad r =
    is_own film d d.heads (ended_after track (End ending) d) (Ended by track ending) own r (record {
      fits = ended_step film d.cache.limits d.set d.cache.current d.cache.others d.heads d.seeking d.waiting d.switch d.failure d.ended (reverse d.journal) by track ending s.fits s.still sel next end;
      still = refl;
      says = record { switch = refl; number = refl; upto = refl; marks = refl };
    })
told_by film d by track None None (Some (Failed before after)) own s i sel next end bad r =
    is_own film d d.heads d.ended (Faulted by track before after) own r (record {
      fits = faulted_step film d.cache.limits d.set d.cache.current d.cache.others d.heads d.seeking d.waiting d.switch d.failure d.ended (reverse d.journal) by track before after s.fits s.still sel next end bad;
      still = refl;
      says = record { switch = refl; number = refl; upto = refl; marks = refl };
    })
told_by film d by track None None (Some Starved) own s i sel next end bad r =
    is_own film d d.heads d.ended (WantingRecord by track) own r (record {
      fits = wanting_step film d.cache.limits d.set d.cache.current d.cache.others d.heads d.seeking d.waiting d.switch d.failure d.ended (reverse d.journal) by track s.fits s.still sel next end bad;
      still = refl;
      says = record { switch = refl; number = refl; upto = refl; marks = refl };
    })
told_by film d by track None None None own s i sel next end bad r =
    full_told film d by track (nat_le d.cache.limits.forward (forward_of d)) own s i sel next end bad refl r

unselected : (by track : ℕ) (own : DemuxRecord) → record_of by track Unselected ≡ Some own → ⊥
unselected by track own r = cc

pub told_of : (film : Film) (d : DemuxState) (by track : ℕ) (own : DemuxRecord) → StandsFor film d → IsDemux d → record_of by track (reading_of track d) ≡ Some own
    → IsTold film d (heads_after track (reading_of track d) d) (ended_after track (reading_of track d) d) own
told_of film d by track own s i r = by_set (has d.set track) refl r
  where
    by_set : (b : Bool) → has d.set track ≡ b
        → record_of by track (if b then reading_by (next_in d.set d.heads track d.cache.current) (end_in track d.cache.current) d.failure (forward_of d) d.cache.limits.forward else Unselected) ≡ Some own
        → IsTold film d (heads_after track (if b then reading_by (next_in d.set d.heads track d.cache.current) (end_in track d.cache.current) d.failure (forward_of d) d.cache.limits.forward else Unselected) d)
        (ended_after track (if b then reading_by (next_in d.set d.heads track d.cache.current) (end_in track d.cache.current) d.failure (forward_of d) d.cache.limits.forward else Unselected) d) own
    by_set false e x = absurd (unselected by track own x)
    by_set true e x = told_by film d by track (next_in d.set d.heads track d.cache.current) (end_in track d.cache.current) d.failure own s i e refl refl refl x

-- ---- and then drops come

pub gives_keep : (film : Film) (old new : DemuxState) (by : ℕ) (own : DemuxRecord) (heads : Heads) (ended : Choice) → IsDemux old
    → IsPlaced old.set heads old.waiting old.seeking old.cache.current → StandsFor film old → IsTold film old heads ended own → Gives by own heads ended old new → StandsFor film new
gives_keep film old new by own heads ended i p s t g =
    let push : own ∷ reverse old.journal ≡ reverse (old.journal ++ own ∷ []) = sym (reverse-push old.journal own) in
    let all = trims_keep film old.cache.limits old.set heads old.seeking old.waiting old.switch old.failure ended by old.cache (old.journal ++ own ∷ []) new.cache new.journal
    refl i.sets p (record {
      fits = subst (λ (h : List DemuxRecord). Fits film old.cache.limits old.set old.cache.current old.cache.others heads old.seeking old.waiting old.switch old.failure ended h) push t.fits;
      still = subst (λ (h : List DemuxRecord). is_still film.packets h ≡ true) push t.still;
    }) g.trims in
    let lim = (trimmed by old.set heads old.waiting old.seeking old.cache (old.journal ++ own ∷ []) new.cache new.journal g.trims).limits_are in
    subst (λ (d : DemuxState). StandsFor film d) (sym g.changed) (record {
      fits = subst (λ (l : Limits). Fits film l old.set new.cache.current new.cache.others heads old.seeking old.waiting old.switch old.failure ended (reverse new.journal)) (sym lim) all.fits;
      still = all.still;
      tied = gives_tied old new by own heads ended g t.says s.tied;
      known = s.known;
    })

pub gives_now : (old now : DemuxState) (by : ℕ) (own : DemuxRecord) (heads : Heads) (ended : Choice) (c : CacheState) (j : List DemuxRecord) (spare : ℕ) → old ≡ now
    → Trims by heads old.cache (old.journal ++ own ∷ []) c j → Gives by own heads ended now (record old { cache = c; heads = heads; ended = ended; journal = j; spare = spare })
gives_now old now by own heads ended c j spare was trims =
    let d = trimmed by old.set heads old.waiting old.seeking old.cache (old.journal ++ own ∷ []) c j trims in
    let new : DemuxState = record old { cache = c; heads = heads; ended = ended; journal = j; spare = spare } in
    subst (λ (x : DemuxState). Gives by own heads ended x new) was (record {
      trims = trims;
      changed = refl;
      limits_are = d.limits_are;
      wrote = record { drops = d.drops; grows = d.grows ∙ append_assoc old.journal (own ∷ []) d.drops; are = d.are };
    })
