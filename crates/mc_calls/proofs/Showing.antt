-- What a demuxer shows of itself is what its journal says.
use Rattle.std.proofs.Common.{◌≡◌, ℕ, ◌+◌, Bool, true, false, ◌&&◌, ◌||◌, not, Option, Some, None, List, [], ◌∷◌, refl, ap, sym, subst, ◌∙◌, inl, inr, ◌==◌}
use Rattle.std.specs.Prelude.{ℤ, nat_le, if◌then◌else◌, reverse, is_some, IfSome}
use Rattle.std.specs.List.{find}
use Rattle.std.specs.Option.{option_map}
use Rattle.std.proofs.lemmas.Bool.{cases_Bool, eqb-true}
use Rattle.mc_packet.specs.declared.packet.Packet.{Packet}
use Rattle.mc_packet.specs.declared.packet.Pos.{Pos}
use Rattle.mc_packet.specs.declared.choice.Choice.{Choice}
use Rattle.mc_packet.specs.declared.choice.Dir.{Dir}
use Rattle.mc_packet.specs.declared.cache.Heads.{Heads}
use Rattle.mc_packet.specs.declared.walk.Mark.{Mark}
use Rattle.mc_journal.specs.declared.record.DemuxRecord.{DemuxRecord}
use Rattle.mc_packet.specs.Choices.{or_else, has}
use Rattle.mc_journal.specs.Films.{Film, at, rank}
use Rattle.mc_journal.specs.Readings.{selected, pending, target, direction, failed}
use Rattle.mc_journal.specs.Views.{next}
use Rattle.mc_journal.specs.Used.{can_end}
use Rattle.mc_packet.specs.declared.walk.Ending.{Ending}
use Rattle.mc_queue.specs.Places.{Rise, is_from, place}
use Rattle.mc_queue.specs.Queue.{QueueState, IsQueue}
use Rattle.mc_range.specs.Range.{RangeState, QueueIn, IsRange, own, queue_of}
use Rattle.mc_calls.specs.declared.waiting.Target.{Target}
use Rattle.mc_calls.specs.declared.waiting.Failure.{Failure}
use Rattle.mc_calls.specs.declared.waiting.Failure.TheVariants.{Failed, Starved}
use Rattle.mc_calls.specs.declared.answer.Reading.TheVariants.{NotYet, Overfull, Unselected}
use Rattle.mc_calls.specs.State.{DemuxState, first_at, head_of, next_in, end_in, forward_of}
use Rattle.mc_calls.specs.Demuxers.{IsDemux}
use Rattle.mc_calls.specs.Readings.{peek_at, reading_by, reading_of}
use Rattle.mc_calls.specs.Film.{StandsFor, failure_record}
use Rattle.mc_calls.specs.Shows.{goal_of, is_finish, pending_goal}
use Rattle.mc_calls.proofs.Nexts.{end-is, next-is}

-- ---- the packet at a head

place_told : (o : Option Packet) → option_map (λ (p : Packet). rank p.pos) o ≡ option_map at (o)
place_told None = refl
place_told (Some p) = refl

pub next_of : (film : Film) (d : DemuxState) (track : ℕ) → StandsFor film d → next film.packets (reverse d.journal) track ≡ (next_in d.set d.heads track d.cache.current)
next_of film d track s =
    next-is film d.cache.limits d.set d.cache.current d.cache.others d.heads d.seeking d.waiting d.switch d.failure d.ended (reverse d.journal) track s.fits

pub packet_is : (film : Film) (d : DemuxState) (track : ℕ) → StandsFor film d → next_in d.set d.heads track d.cache.current ≡ next film.packets (reverse d.journal) track
packet_is film d track s = sym (next_of film d track s)

pub front_is : (film : Film) (d : DemuxState) (track : ℕ) → StandsFor film d
    → option_map (λ (p : Packet). rank p.pos) (next_in d.set d.heads track d.cache.current) ≡ option_map at (next film.packets (reverse d.journal) track)
front_is film d track s =
    place_told (next_in d.set d.heads track d.cache.current) ∙ ap (λ (o : Option Packet). option_map at o) (sym (next_of film d track s))

-- ---- its track

own_found : (k n from to : ℕ) (ps : List Packet) → Rise k from to ps → IfSome (find (is_from n) ps) (λ p. p.track ≡ k)
own_found k n from to [] h = tt
own_found k n from to (p ∷ ps) h = elim (cases_Bool (is_from n p)) [
  | inl y ↦ rw y h.0
  | inr o ↦ rw o (own_found k n (place p + 1) to ps h.2)
]

own_of : (track : ℕ) (set : Option ℕ) (mark : Mark) (q : Option QueueState) → QueueIn set mark q → IfSome (own track q) (λ x. (x.track ≡ track) × IsQueue x)
own_of track set mark None h = tt
own_of track set mark (Some q) h = elim (cases_Bool (q.track == track)) [
  | inl y ↦ rw y (eqb-true q.track track y, h.2)
  | inr o ↦ rw o tt
]

either_of : (P : QueueState → Type 0) (a b : Option QueueState) → IfSome a P → IfSome b P → IfSome (or_else a b) P
either_of P None b x y = y
either_of P (Some q) b x y = x

queue_own : (track : ℕ) (r : RangeState) → IsRange r → IfSome (queue_of track r.queues) (λ q. (q.track ≡ track) × IsQueue q)
queue_own track r i =
    let P : QueueState → Type 0 = λ q. (q.track ≡ track) × IsQueue q in
    either_of P (own track r.queues.video) (or_else (own track r.queues.audio) (own track r.queues.sub)) (own_of track r.set.video r.mark r.queues.video i.held.video)
    (either_of P (own track r.queues.audio) (own track r.queues.sub) (own_of track r.set.audio r.mark r.queues.audio i.held.audio) (own_of track r.set.sub r.mark r.queues.sub i.held.sub))

first_own : (track : ℕ) (o : Option QueueState) (hd : Option Pos) → IfSome o (λ q. (q.track ≡ track) × IsQueue q) → IfSome (first_at o hd) (λ p. p.track ≡ track)
first_own track None hd h = tt
first_own track (Some q) None h = tt
first_own track (Some q) (Some p) h =
    subst (λ k. IfSome (find (is_from (rank p)) q.packets) (λ x. x.track ≡ k)) h.0 (own_found q.track (rank p) (rank q.from) (rank q.to) q.packets h.1.rise)

range_own : (set : Choice) (heads : Heads) (track : ℕ) (current : Option RangeState) → IfSome current IsRange → IfSome (next_in set heads track current) (λ p. p.track ≡ track)
range_own set heads track None i = tt
range_own set heads track (Some r) i = first_own track (queue_of track r.queues) (head_of set heads track) (queue_own track r i)

pub own_is : (d : DemuxState) (track : ℕ) → IsDemux d → IfSome (next_in d.set d.heads track d.cache.current) (λ p. p.track ≡ track)
own_is d track i = range_own d.set d.heads track d.cache.current i.cache.current

-- ---- the selected tracks, and the target of a seek that is pending

pub set_is : (film : Film) (d : DemuxState) → StandsFor film d → d.set ≡ selected (reverse d.journal)
set_is film d s = sym s.fits.set_is

target_told : (o : Option Target) (b : Bool) (t : Option ℤ) (dir : Dir) → b ≡ is_some o → IfSome o (λ s. (t ≡ Some s.t) × (dir ≡ s.dir))
    → option_map goal_of o ≡ (if b then option_map {U = ℤ × Dir} (λ x. (x, dir)) t else None)
target_told None b t dir e h = rw e refl
target_told (Some s) b t dir e h = let u = h.0 in let v = h.1 in rw (e, u, v) refl

pub pending_is : (film : Film) (d : DemuxState) → StandsFor film d → option_map goal_of d.seeking ≡ pending_goal (reverse d.journal)
pending_is film d s = target_told d.seeking (pending (reverse d.journal)) (target (reverse d.journal)) (direction (reverse d.journal)) s.fits.seeks s.fits.target_is

-- ---- where a read tells an end, a failure or want of memory

failed_told : (o : Option Failure) → is_some (option_map failure_record o) ≡ is_some o
failed_told None = refl
failed_told (Some f) = refl

pub failed_is : (film : Film) (d : DemuxState) → StandsFor film d → is_some d.failure ≡ failed (reverse d.journal)
failed_is film d s = sym (failed_told d.failure) ∙ sym (ap (λ (o : Option DemuxRecord). is_some o) s.fits.failure_is)

full_waits : (b : Bool) (forward max : ℕ) → is_finish (peek_at (if b then Overfull forward max else NotYet)) ≡ false
full_waits true forward max = refl
full_waits false forward max = refl

finish_by : (o : Option Packet) (e : Option Ending) (f : Option Failure) (forward max : ℕ)
    → is_finish (peek_at (reading_by o e f forward max)) ≡ (not (is_some (o)) && (is_some e || is_some f))
finish_by (Some p) e f forward max = refl
finish_by None (Some e) f forward max = refl
finish_by None None (Some (Failed before after)) forward max = refl
finish_by None None (Some Starved) forward max = refl
finish_by None None None forward max = full_waits (nat_le max forward) forward max

finish_in : (b : Bool) (o : Option Packet) (e : Option Ending) (f : Option Failure) (forward max : ℕ)
    → (b && is_finish (peek_at (if b then reading_by o e f forward max else Unselected))) ≡ (b && (not (is_some (o)) && (is_some e || is_some f)))
finish_in true o e f forward max = finish_by o e f forward max
finish_in false o e f forward max = refl

pub tells_is : (film : Film) (d : DemuxState) (track : ℕ) → StandsFor film d
    → (has d.set track && is_finish (peek_at (reading_of track d)))
    ≡ (has (selected (reverse d.journal)) track
    && (not (is_some (next film.packets (reverse d.journal) track)) && (can_end film.packets (reverse d.journal) track || failed (reverse d.journal))))
tells_is film d track s =
    let h = reverse d.journal in
    let set : has d.set track ≡ has (selected h) track = ap (λ (c : Choice). has c track) (set_is film d s) in
    let none : (next_in d.set d.heads track d.cache.current) ≡ next film.packets h track = sym (next_of film d track s) in
    let end : is_some (end_in track d.cache.current) ≡ can_end film.packets h track =
    sym (end-is film d.cache.limits d.set d.cache.current d.cache.others d.heads d.seeking d.waiting d.switch d.failure d.ended h track s.fits) in
    finish_in (has d.set track) (next_in d.set d.heads track d.cache.current) (end_in track d.cache.current) d.failure (forward_of d) d.cache.limits.forward
    ∙ ap (λ b. b && (not (is_some ((next_in d.set d.heads track d.cache.current))) && (is_some (end_in track d.cache.current) || is_some d.failure))) set
    ∙ ap (λ (o : Option Packet). has (selected h) track && (not (is_some o) && (is_some (end_in track d.cache.current) || is_some d.failure))) none
    ∙ ap (λ b. has (selected h) track && (not (is_some (next film.packets h track)) && (b || is_some d.failure))) end
    ∙ ap (λ b. has (selected h) track && (not (is_some (next film.packets h track)) && (can_end film.packets h track || b))) (failed_is film d s)
