-- The octets ahead of the readers and behind them, and the short account, are what the journal says.
use Rattle.std.proofs.Common.{◌≡◌, ℕ, ◌+◌, ◌-◌, ◌≤◌, Option, Some, None, List, refl, ap, sym, ◌∙◌, arith, length, suc}
use Rattle.std.specs.Prelude.{map, reverse, sum_by}
use Rattle.std.proofs.lemmas.List.{length-map, length-reverse}
use Rattle.std.specs.Option.{option_map}
use Rattle.mc_packet.specs.declared.choice.Choice.{Choice}
use Rattle.mc_packet.specs.declared.cache.Heads.{Heads}
use Rattle.mc_packet.specs.declared.cache.Status.{Status}
use Rattle.mc_packet.specs.declared.walk.Ending.{Ending}
use Rattle.mc_journal.specs.Films.{Film}
use Rattle.mc_journal.specs.Stands.{Stand, stand, ranges_of as stand_ranges}
use Rattle.mc_journal.specs.Views.{back, ending_in as ending_told, forward, forward_in, head, range_weight}
use Rattle.mc_range.specs.Range.{RangeState, as_range}
use Rattle.mc_cache.specs.Cache.{ending_in, in_front, ranges_of, weight_of}
use Rattle.mc_cache.specs.Pruning.{ahead_in}
use Rattle.mc_cache.proofs.Reselected.{ahead_at_most}
use Rattle.mc_cache.proofs.Viewed.{back_shown, ending_shown, forward_shown}
use Rattle.mc_calls.specs.State.{DemuxState, back_of, forward_of}
use Rattle.mc_calls.specs.Demuxers.{IsDemux, heaviest}
use Rattle.mc_calls.specs.Film.{StandsFor}
use Rattle.mc_calls.specs.ByJournal.{status_by}
use Rattle.mc_calls.specs.Viewing.{flags_of, status_of}
use Rattle.mc_calls.proofs.Turned.{holds_all, stand_is}

-- ---- octets

pub forward_is : (film : Film) (d : DemuxState) → IsDemux d → StandsFor film d → forward_of d ≡ forward film.packets (reverse d.journal)
forward_is film d i s =
    let ps = film.packets in
    let h = reverse d.journal in
    let place : ℕ → ℕ = λ k. head ps k h in
    let all = holds_all ps d.set d.cache s.fits.held s.fits.all_held i.sets in
    let is = stand_is ps h d.cache s.fits.current_is s.fits.others_are in
    forward_shown ps d.set d.heads place d.cache i.cache all s.fits.places
    ∙ ap (λ (x : Stand). forward_in ps d.set place x.current) (sym is)
    ∙ ap (λ (c : Choice). forward_in ps c place (stand ps h).current) (sym s.fits.set_is)

pub back_is : (film : Film) (d : DemuxState) → IsDemux d → StandsFor film d → back_of d ≡ back film.packets (reverse d.journal)
back_is film d i s =
    let ps = film.packets in
    let h = reverse d.journal in
    let place : ℕ → ℕ = λ k. head ps k h in
    let all = holds_all ps d.set d.cache s.fits.held s.fits.all_held i.sets in
    let is = stand_is ps h d.cache s.fits.current_is s.fits.others_are in
    back_shown ps d.set d.heads place d.cache i.cache all s.fits.places
    ∙ ap (λ (x : Stand). sum_by (range_weight ps d.set) (stand_ranges x) - forward_in ps d.set place x.current) (sym is)
    ∙ ap (λ (c : Choice). sum_by (range_weight ps c) (stand_ranges (stand ps h)) - forward_in ps c place (stand ps h).current) (sym s.fits.set_is)

-- ---- the short account

ranges_number : (c : Option RangeState) (rs : List RangeState)
    → length (in_front c rs) ≡ length (stand_ranges (let s : Stand = record { current = option_map as_range c; others = map as_range rs } in s))
ranges_number None rs = sym (length-map rs as_range)
ranges_number (Some r) rs = ap (λ n. suc n) (sym (length-map rs as_range))

same_status : (seq seq' forward forward' back back' flags flags' : ℕ) → seq ≡ seq' → forward ≡ forward' → back ≡ back' → flags ≡ flags'
    → (let s : Status = record { seq = seq; forward = forward; back = back; flags = flags } in s) ≡ (let s : Status = record { seq = seq'; forward = forward'; back = back'; flags = flags' } in s)
same_status seq seq' forward forward' back back' flags flags' a b c d = rw (a, b, c, d) refl

pub status_is : (film : Film) (d : DemuxState) → IsDemux d → StandsFor film d → status_of d ≡ status_by film (reverse d.journal)
status_is film d i s =
    let ps = film.packets in
    let h = reverse d.journal in
    let is = stand_is ps h d.cache s.fits.current_is s.fits.others_are in
    let seq : length d.journal ≡ length h = sym (length-reverse d.journal) in
    let f = forward_is film d i s in
    let b = back_is film d i s in
    let end : ending_in d.cache.current ≡ ending_told (stand ps h).current = ending_shown d.cache.current ∙ ap (λ (x : Stand). ending_told x.current) (sym is) in
    let many : length (ranges_of d.cache) ≡ length (stand_ranges (stand ps h)) =
    ranges_number d.cache.current d.cache.others ∙ ap (λ (x : Stand). length (stand_ranges x)) (sym is) in
    let flags = ap (λ (e : Option Ending). flags_of e (length (ranges_of d.cache))) end ∙ ap (λ n. flags_of (ending_told (stand ps h).current) n) many in
    same_status (length d.journal) (length h) (forward_of d) (forward ps h) (back_of d) (back ps h) (flags_of (ending_in d.cache.current) (length (ranges_of d.cache)))
    (flags_of (ending_told (stand ps h).current) (length (stand_ranges (stand ps h)))) seq f b flags

-- ---- their bound

pub back_within : (film : Film) (d : DemuxState) → IsDemux d → StandsFor film d → back film.packets (reverse d.journal) ≤ d.cache.limits.back
back_within film d i s =
    let e = back_is film d i s in
    let l = i.within in
    omega arith

ahead_light : (heads : Heads) (c : Option RangeState) (rs : List RangeState) → ahead_in heads c ≤ weight_of (in_front c rs)
ahead_light heads None rs = omega arith
ahead_light heads (Some r) rs = let l = ahead_at_most heads r in omega arith

pub both_within : (film : Film) (d : DemuxState) → IsDemux d → StandsFor film d
    → forward film.packets (reverse d.journal) + back film.packets (reverse d.journal) ≤ d.cache.limits.forward + d.cache.limits.back + heaviest
both_within film d i s =
    let f = forward_is film d i s in
    let b = back_is film d i s in
    let l = ahead_light d.heads d.cache.current d.cache.others in
    let w = i.weight in
    omega arith
