-- Where the packets of a walk and of a part lie, and how a film falls into what stands before a mark and behind it.
use Rattle.std.proofs.Common.{◌≡◌, ℕ, zero, suc, ◌-◌, ◌<◌, ◌≤◌, List, [], ◌∷◌, ◌++◌, length, Option, Some, None, refl, sym, ap, ◌∙◌, append_assoc, arith}
use Rattle.std.specs.List.{AllByRecursion}
use Rattle.mc_packet.specs.declared.packet.Packet.{Packet}
use Rattle.mc_packet.specs.declared.walk.Ending.{Ending}
use Rattle.mc_packet.specs.declared.walk.Level.{Level}
use Rattle.mc_walk.specs.declared.plan.Plan.{Plan}
use Rattle.mc_walk.specs.declared.plan.Step.{Step}
use Rattle.mc_walk.specs.declared.plan.Step.TheVariants.{End, On}
use Rattle.mc_walk.specs.Walk.{step_at, steps, walk, after, Rises, Rest, in_front, packets_in}
use Rattle.mc_walk.specs.Frames.{Comes}
use Rattle.mc_walk.specs.Frames.Comes.{here, onward}
use Rattle.mc_walk.specs.Parts.{Part, part, part_after}
use Rattle.mc_walk.proofs.Rising.{step-rises}
use Rattle.mc_walk.proofs.Enough.{walk-enough}
use Rattle.mc_walk.proofs.Framing.{Framed, step-framed}
use Rattle.mc_walk.proofs.Lanes.{all-weaker, IsFrom}
use Rattle.mc_walk.proofs.Joining.{comes-within}

-- ---- packets by their blocks

-- its block stands at a place or behind it
abbrev pub IsBehind : ℕ → Packet → Type 0
IsBehind place p = place ≤ p.pos.block

-- its block stands before a place
abbrev pub IsBefore : ℕ → Packet → Type 0
IsBefore place p = p.pos.block < place

pub all-append : {X : Type 0} (P : X → Type 0) (xs ys : List X) → AllByRecursion P xs → AllByRecursion P ys → AllByRecursion P (xs ++ ys)
all-append P [] ys h g = g
all-append P (x ∷ xs) ys h g = (h.0, all-append P xs ys h.1 g)

pub behind-earlier : (from to : ℕ) (ps : List Packet) → from ≤ to → AllByRecursion (IsBehind to) ps → AllByRecursion (IsBehind from) ps
behind-earlier from to ps h all = all-weaker (IsBehind to) (IsBehind from) (λ p g. omega arith) ps all

pub before-later : (from to : ℕ) (ps : List Packet) → from ≤ to → AllByRecursion (IsBefore from) ps → AllByRecursion (IsBefore to) ps
before-later from to ps h all = all-weaker (IsBefore from) (IsBefore to) (λ p g. omega arith) ps all

frames-behind : (place : ℕ) (ps : List Packet) → AllByRecursion (IsFrom place 0) ps → AllByRecursion (IsBehind place) ps
frames-behind place ps all = all-weaker (IsFrom place 0) (IsBehind place) (λ p h. let at = h.0 in omega arith) ps all

frames-before : (place to : ℕ) (ps : List Packet) → place < to → AllByRecursion (IsFrom place 0) ps → AllByRecursion (IsBefore to) ps
frames-before place to ps less all = all-weaker (IsFrom place 0) (IsBefore to) (λ p h. let at = h.0 in omega arith) ps all

-- ---- a walk

after-behind : (step : Step) (place len : ℕ) (f : ℕ → Level → Rest) → Rises place len step → Framed place step
    → ((to : ℕ) (inner : Level) → to ≤ len → AllByRecursion (IsBehind to) (f to inner).0) → AllByRecursion (IsBehind place) (after step f).0
after-behind (End ending) place len f rises framed on = tt
after-behind (On to inner None) place len f rises framed on = behind-earlier place to (f to inner).0 (let h = rises.0 in omega arith) (on to inner rises.1)
after-behind (On to inner (Some ps)) place len f rises framed on =
    all-append (IsBehind place) ps (f to inner).0 (frames-behind place ps framed.0) (behind-earlier place to (f to inner).0 (let h = rises.0 in omega arith) (on to inner rises.1))

-- a walk from a place on gives packets of blocks there and behind it
pub walk-behind : (n : ℕ) (plan : Plan) (place : ℕ) (level : Level) → place ≤ length plan.octets → AllByRecursion (IsBehind place) (walk n plan place level).0
unfolding walk
walk-behind zero plan place level in_film = tt
walk-behind (suc n) plan place level in_film =
    after-behind (step_at plan place level) place (length plan.octets) (λ to inner. walk n plan to inner) (step-rises plan place level in_film) (step-framed plan place level)
    (λ to inner within. walk-behind n plan to inner within)

-- ---- a part

-- packets of blocks from a place up to the part's end
pub record LiesIn (place : ℕ) (p : Part) : Type 0 where
  pub behind : AllByRecursion (IsBehind place) p.packets
  pub before : AllByRecursion (IsBefore p.to.pos) p.packets

part_after-lies : (step : Step) (place len : ℕ) (level : Level) (f : ℕ → Level → Part) → Rises place len step → Framed place step
    → ((to : ℕ) (inner : Level) → to ≤ len → LiesIn to (f to inner)) → LiesIn place (part_after place level step f)
part_after-lies (End ending) place len level f rises framed on = record { behind = tt; before = tt }
part_after-lies (On to inner None) place len level f rises framed on =
    let further = on to inner rises.1 in
    record { behind = behind-earlier place to (f to inner).packets (let h = rises.0 in omega arith) further.behind; before = further.before }
part_after-lies (On to inner (Some ps)) place len level f rises framed on =
    record { behind = frames-behind place ps framed.0; before = frames-before place to ps rises.0 framed.0 }

pub part-lies : (n : ℕ) (plan : Plan) (place : ℕ) (level : Level) → place ≤ length plan.octets → LiesIn place (part n plan place level)
unfolding part
part-lies zero plan place level in_film = record { behind = tt; before = tt }
part-lies (suc n) plan place level in_film =
    part_after-lies (step_at plan place level) place (length plan.octets) level (λ to inner. part n plan to inner) (step-rises plan place level in_film) (step-framed plan place level)
    (λ to inner within. part-lies n plan to inner within)

-- ---- a walk by its first part

-- the walk from where a part ends
abbrev pub from_end : Plan → Part → Rest
from_end plan p = walk (steps plan) plan p.to.pos p.to.level

ended-walk : (plan : Plan) (place : ℕ) (level : Level) (ending : Ending) → step_at plan place level ≡ End ending → walk (steps plan) plan place level ≡ ([], ending)
unfolding walk
ended-walk plan place level ending is = let k : steps plan ≡ suc (length plan.octets) = omega arith in rw (k, is) refl

step-parts : (step : Step) (n : ℕ) (plan : Plan) (place : ℕ) (level : Level) → step_at plan place level ≡ step → Rises place (length plan.octets) step → length plan.octets - place < suc n
    → ((to : ℕ) (inner : Level) → place < to → to ≤ length plan.octets → walk n plan to inner ≡ in_front (part n plan to inner).packets (from_end plan (part n plan to inner)))
    → after step (λ to inner. walk n plan to inner)
    ≡ in_front (part_after place level step (λ to inner. part n plan to inner)).packets (from_end plan (part_after place level step (λ to inner. part n plan to inner)))
step-parts (End ending) n plan place level is rises enough on = rw (ended-walk plan place level ending is) refl
step-parts (On to inner None) n plan place level is rises enough on = on to inner rises.0 rises.1
step-parts (On to inner (Some packets)) n plan place level is rises enough on =
    ap (in_front packets) (walk-enough n (steps plan) plan to inner rises.1 (let h = rises.0 in omega arith) (let h = rises.0 in omega arith))

-- it gives the part's packets, and then those of the walk from where the part ends
pub walk-parts : (n : ℕ) (plan : Plan) (place : ℕ) (level : Level) → place ≤ length plan.octets → length plan.octets - place < n
    → walk n plan place level ≡ in_front (part n plan place level).packets (from_end plan (part n plan place level))
unfolding walk part
walk-parts zero plan place level in_film enough = absurd (omega arith)
walk-parts (suc n) plan place level in_film enough =
    step-parts (step_at plan place level) n plan place level refl (step-rises plan place level in_film) enough
    (λ to inner behind within. walk-parts n plan to inner within (omega arith))

-- ---- a walk that comes to a place

pub in_front-append : (ps qs : List Packet) (r : Rest) → in_front (ps ++ qs) r ≡ in_front ps (in_front qs r)
in_front-append ps qs r = ap (λ packets. let x : Rest = (packets, r.1) in x) (append_assoc ps qs r.0)

-- the packets before a place, and the walk from there on
pub record Falls (plan : Plan) (whole : Rest) (place : ℕ) (level : Level) (from : ℕ) : Type 0 where
  pub front : List Packet
  pub joined : whole ≡ in_front front (walk (steps plan) plan place level)
  pub before : AllByRecursion (IsBefore from) front

framed-before : (place to : ℕ) (inner : Level) (block : Option (List Packet)) → place < to → Framed place (On to inner block) → AllByRecursion (IsBefore to) (packets_in block)
framed-before place to inner None less framed = tt
framed-before place to inner (Some ps) less framed = frames-before place to ps less framed.0

pub comes-falls : (plan : Plan) (n place : ℕ) (level : Level) (last : ℕ) (final : Level) → Comes plan place level last final → place ≤ length plan.octets → length plan.octets - place < n
    → Falls plan (walk n plan place level) last final last
unfolding walk
comes-falls plan n place level _ _ (here _ _) in_film enough =
    record { front = []; joined = walk-enough n (steps plan) plan place level in_film enough (omega arith); before = tt }
comes-falls plan zero place level last final (onward _ _ to inner block _ _ step further) in_film enough = absurd (omega arith)
comes-falls plan (suc n) place level last final (onward _ _ to inner block _ _ step further) in_film enough =
    let rises = rw step at (step-rises plan place level in_film) in
    let framed : Framed place (On to inner block) = rw step at (step-framed plan place level) in
    let more = comes-falls plan n to inner last final further rises.1 (let h = rises.0 in omega arith) in
    let on = comes-within plan to inner last final further rises.1 in
    record {
      front = packets_in block ++ more.front;
      joined = rw step (ap (in_front (packets_in block)) more.joined ∙ sym (in_front-append (packets_in block) more.front (walk (steps plan) plan last final)));
      before = all-append (IsBefore last) (packets_in block) more.front (before-later to last (packets_in block) on.0 (framed-before place to inner block rises.0 framed)) more.before;
    }
