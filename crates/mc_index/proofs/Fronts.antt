-- What a film's parts are, and what stands before a mark up to which it was read.
use Rattle.std.proofs.Common.{◌≡◌, ℕ, zero, suc, ◌<◌, ◌≤◌, List, [], ◌∷◌, ◌++◌, length, Option, Some, None, refl, sym, ap, subst, ◌∙◌, inl, inr, append_assoc, arith}
use Rattle.std.proofs.lemmas.Bool.{cond_both, cases_lt, eqb-true}
use Rattle.std.specs.Prelude.{⊤, ◌==◌}
use Rattle.mc_packet.specs.declared.packet.Packet.{Packet}
use Rattle.mc_packet.specs.declared.walk.Ending.{Ending}
use Rattle.mc_packet.specs.declared.walk.Level.{Level}
use Rattle.mc_packet.specs.declared.walk.Mark.{Mark}
use Rattle.mc_walk.specs.declared.plan.Plan.{Plan}
use Rattle.mc_walk.specs.declared.plan.Step.{Step}
use Rattle.mc_walk.specs.declared.plan.Step.TheVariants.{End, On}
use Rattle.mc_walk.specs.Walk.{step_at, steps, walk, Rises, Rest, in_front, film_walk}
use Rattle.mc_walk.specs.Parts.{Part, part, part_after, part_at, place_of, level_of, joined_after, IsMark}
use Rattle.mc_walk.specs.Parts.IsMark.{at_end, at_opening as opening_is_mark}
use Rattle.mc_walk.proofs.Rising.{step-rises}
use Rattle.mc_walk.proofs.Enough.{part-to, EndsOnward}
use Rattle.mc_walk.proofs.Framing.{Framed, step-framed}
use Rattle.mc_walk.proofs.Joining.{place-of, level-of, mark-lies, walk-by_part, from_mark}
use Rattle.mc_index.specs.Fronts.{Front}
use Rattle.mc_index.specs.Fronts.Front.{at_opening, read_on}
use Rattle.mc_index.specs.Scans.{IsPlan}
use Rattle.mc_index.proofs.Syncing.{AreSynced, StepSynced, step-synced}

-- ---- one part

-- the first packet stands from one place up to, but without, another
abbrev pub StartsIn : ℕ → ℕ → List Packet → Type 0
StartsIn from to [] = ⊤
StartsIn from to (p ∷ ps) = (from ≤ p.pos.block) × (p.pos.block < to)

-- what ends the film has no packets
abbrev pub EndsBare : Option Ending → List Packet → Type 0
EndsBare None ps = ⊤
EndsBare (Some ending) ps = ps ≡ []

pub record IsPart (place : ℕ) (p : Part) : Type 0 where
  pub synced : AreSynced p.packets
  pub starts : StartsIn place p.to.pos p.packets
  pub bare : EndsBare p.ending p.packets

starts-earlier : (from from' to : ℕ) (ps : List Packet) → from ≤ from' → StartsIn from' to ps → StartsIn from to ps
starts-earlier from from' to [] h starts = tt
starts-earlier from from' to (p ∷ ps) h starts = (let low = starts.0 in omega arith, starts.1)

framed-starts : (place to : ℕ) (ps : List Packet) (inner : Level) → place < to → Framed place (On to inner (Some ps)) → StartsIn place to ps
framed-starts place to [] inner h framed = tt
framed-starts place to (p ∷ ps) inner h framed = let at : p.pos.block ≡ place = framed.0.0.0 in (omega arith, omega arith)

part-by : (step : Step) (place len : ℕ) (level : Level) (f : ℕ → Level → Part) → Rises place len step → Framed place step → StepSynced step
    → ((to : ℕ) (inner : Level) → to ≤ len → IsPart to (f to inner)) → IsPart place (part_after place level step f)
part-by (End ending) place len level f rises framed synced on = record { synced = tt; starts = tt; bare = refl }
part-by (On to inner None) place len level f rises framed synced on =
    let further = on to inner rises.1 in
    record { synced = further.synced; starts = starts-earlier place to (f to inner).to.pos (f to inner).packets (let h = rises.0 in omega arith) further.starts; bare = further.bare }
part-by (On to inner (Some packets)) place len level f rises framed synced on =
    record { synced = synced; starts = framed-starts place to packets inner rises.0 framed; bare = tt }

part-is : (n : ℕ) (plan : Plan) (place : ℕ) (level : Level) → place ≤ length plan.octets → IsPart place (part n plan place level)
unfolding part
part-is zero plan place level in_film = record { synced = tt; starts = tt; bare = refl }
part-is (suc n) plan place level in_film =
    part-by (step_at plan place level) place (length plan.octets) level (λ to inner. part n plan to inner)
    (step-rises plan place level in_film) (step-framed plan place level) (step-synced plan place level)
    (λ to inner within. part-is n plan to inner within)

-- ---- up to a mark

pub front-mark : (plan : Plan) (n : ℕ) (m : Mark) (ps : List Packet) → Front plan n m ps → IsMark plan m
front-mark plan _ _ _ at_opening = opening_is_mark
front-mark plan _ _ _ (read_on n m ps before goes) = at_end m (front-mark plan n m ps before)

pub front-lies : (plan : Plan) (n : ℕ) (m : Mark) (ps : List Packet) → IsPlan plan → Front plan n m ps → place_of plan m ≤ length plan.octets
front-lies plan n m ps is front = mark-lies plan m is.1 (front-mark plan n m ps front)

-- the part from there on
pub part-at : (plan : Plan) (n : ℕ) (m : Mark) (ps : List Packet) → IsPlan plan → Front plan n m ps → IsPart (place_of plan m) (part_at plan m)
part-at plan n m ps is front = part-is (steps plan) plan (place_of plan m) (level_of m) (front-lies plan n m ps is front)

pub part-onward : (plan : Plan) (n : ℕ) (m : Mark) (ps : List Packet) → IsPlan plan → Front plan n m ps → EndsOnward (place_of plan m) (length plan.octets) (part_at plan m)
part-onward plan n m ps is front = part-to (steps plan) plan (place_of plan m) (level_of m) (front-lies plan n m ps is front)

pub mark-under : (plan : Plan) (m : Mark) → m.pos ≤ place_of plan m
mark-under plan m = cond_both (m.pos == 0) plan.opening m.pos (λ place. m.pos ≤ place) (λ e. let z : m.pos ≡ 0 = eqb-true m.pos 0 e in omega arith) (λ e. omega arith)

-- each block element takes an octet
pub front-count : (plan : Plan) (n : ℕ) (m : Mark) (ps : List Packet) → IsPlan plan → Front plan n m ps → n ≤ m.pos
front-count plan _ _ _ is at_opening = omega arith
front-count plan _ _ _ is (read_on n m ps before goes) =
    let on = (part-onward plan n m ps is before).2 goes in
    omega (arith, front-count plan n m ps is before, mark-under plan m, on)

-- no mark stands before the Segment's first child
pub front-opens : (plan : Plan) (n : ℕ) (m : Mark) (ps : List Packet) → IsPlan plan → Front plan n m ps → 0 < place_of plan m
front-opens plan _ _ _ is at_opening = is.0
front-opens plan _ _ _ is (read_on n m ps before goes) =
    let behind = (part-onward plan n m ps is before).2 goes in
    let positive : 0 < (part_at plan m).to.pos = omega arith in
    rw (place-of plan (part_at plan m).to positive) positive

in_front-append : (ps qs : List Packet) (r : Rest) → in_front (ps ++ qs) r ≡ in_front ps (in_front qs r)
in_front-append ps qs r = ap (λ packets. let x : Rest = (packets, r.1) in x) (append_assoc ps qs r.0)

-- the walk from a mark on
abbrev pub rest_from : Plan → Mark → Rest
rest_from plan m = walk (steps plan) plan (place_of plan m) (level_of m)

joined-goes : (p : Part) (on : Mark → Rest) → p.ending ≡ None → joined_after p on ≡ in_front p.packets (on p.to)
joined-goes p on goes = rw goes refl

joined-ends : (p : Part) (ending : Ending) (on : Mark → Rest) → p.ending ≡ Some ending → joined_after p on ≡ (p.packets, ending)
joined-ends p ending on ends = rw ends refl

rest-joined : (plan : Plan) (n : ℕ) (m : Mark) (ps : List Packet) → IsPlan plan → Front plan n m ps → rest_from plan m ≡ joined_after (part_at plan m) (from_mark (steps plan) plan)
rest-joined plan n m ps is front =
    let lies = front-lies plan n m ps is front in
    walk-by_part (steps plan) (steps plan) plan (place_of plan m) (level_of m) lies (omega arith) (omega arith)

-- the film is what was read, and then the walk from the mark on
pub front-whole : (plan : Plan) (n : ℕ) (m : Mark) (ps : List Packet) → IsPlan plan → Front plan n m ps → film_walk plan ≡ in_front ps (rest_from plan m)
front-whole plan _ _ _ is at_opening = refl
front-whole plan _ _ _ is (read_on n m ps before goes) =
    let p = part_at plan m in
    let behind = (part-onward plan n m ps is before).2 goes in
    let positive : 0 < p.to.pos = omega arith in
    let on : from_mark (steps plan) plan p.to ≡ rest_from plan p.to = rw (place-of plan p.to positive, level-of p.to positive) refl in
    front-whole plan n m ps is before
    ∙ ap (in_front ps) (rest-joined plan n m ps is before ∙ joined-goes p (from_mark (steps plan) plan) goes ∙ ap (in_front p.packets) on)
    ∙ sym (in_front-append ps p.packets (rest_from plan p.to))

bare-none : (ending : Ending) (p : Part) → p.ending ≡ Some ending → EndsBare p.ending p.packets → p.packets ≡ []
bare-none ending p ends bare = let e = ends in rw e at bare

-- where the film ends there, it was read whole
pub front-ended : (plan : Plan) (n : ℕ) (m : Mark) (ps : List Packet) (ending : Ending) → IsPlan plan → Front plan n m ps → (part_at plan m).ending ≡ Some ending → (film_walk plan).0 ≡ ps ++ []
front-ended plan n m ps ending is front ends =
    let p = part_at plan m in
    let rest = rest-joined plan n m ps is front ∙ joined-ends p ending (from_mark (steps plan) plan) ends in
    let none = bare-none ending p ends (part-at plan n m ps is front).bare in
    ap (λ (r : Rest). r.0) (front-whole plan n m ps is front) ∙ ap (λ (r : Rest). ps ++ r.0) rest ∙ ap (λ qs. ps ++ qs) none

-- ---- one behind the other

pub record IsSame (m m' : Mark) (ps ps' : List Packet) : Type 0 where
  pub mark : m' ≡ m
  pub packets : ps' ≡ ps

pub front-same : (plan : Plan) (n n' : ℕ) (m m' : Mark) (ps ps' : List Packet) → n ≡ n' → Front plan n m ps → Front plan n' m' ps' → IsSame m m' ps ps'
front-same plan _ _ _ _ _ _ e at_opening at_opening = record { mark = refl; packets = refl }
front-same plan _ _ _ _ _ _ e at_opening (read_on n m ps before goes) = absurd (omega arith)
front-same plan _ _ _ _ _ _ e (read_on n m ps before goes) at_opening = absurd (omega arith)
front-same plan _ _ _ _ _ _ e (read_on n m ps before goes) (read_on n' m' ps' before' goes') =
    let same = front-same plan n n' m m' ps ps' (omega arith) before before' in
    record {
      mark = ap (λ (k : Mark). (part_at plan k).to) same.mark;
      packets = ap (λ qs. qs ++ (part_at plan m').packets) same.packets ∙ ap (λ (k : Mark). ps ++ (part_at plan k).packets) same.mark;
    }

-- a mark that was read up to later lies at the end of the part or behind it
pub record IsLater (plan : Plan) (m m' : Mark) (ps ps' : List Packet) : Type 0 where
  pub goes : (part_at plan m).ending ≡ None
  pub onward : (part_at plan m).to.pos ≤ m'.pos
  pub rest : List Packet
  pub whole : ps' ≡ ps ++ rest

pub front-later : (plan : Plan) (n n' : ℕ) (m m' : Mark) (ps ps' : List Packet) → IsPlan plan → n < n' → Front plan n m ps → Front plan n' m' ps' → IsLater plan m m' ps ps'
front-later plan n _ m _ ps _ is h front at_opening = absurd (omega arith)
front-later plan n _ m _ ps _ is h front (read_on k mk pk before goes) =
    elim (cases_lt n k) [
      | inl less ↦
          let earlier = front-later plan n k m mk ps pk is less front before in
          let on = (part-onward plan k mk pk is before).2 goes in
          record {
            goes = earlier.goes;
            onward = omega (arith, earlier.onward, mark-under plan mk, on);
            rest = earlier.rest ++ (part_at plan mk).packets;
            whole = ap (λ qs. qs ++ (part_at plan mk).packets) earlier.whole ∙ append_assoc ps earlier.rest (part_at plan mk).packets;
          }
      | inr le ↦
          let e : n ≡ k = omega arith in
          let same = front-same plan n k m mk ps pk e front before in
          let at : (part_at plan mk).to ≡ (part_at plan m).to = ap (λ (j : Mark). (part_at plan j).to) same.mark in
          record {
            goes = subst (λ (j : Mark). (part_at plan j).ending ≡ None) same.mark goes;
            onward = subst (λ (j : Mark). (part_at plan m).to.pos ≤ j.pos) (sym at) (omega arith);
            rest = (part_at plan mk).packets;
            whole = ap (λ qs. qs ++ (part_at plan mk).packets) same.packets;
          }
    ]
