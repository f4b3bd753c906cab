-- The mark at a start is one from which a film can be read on.
use Rattle.std.proofs.Common.{◌≡◌, ℕ, zero, suc, ◌+◌, inl, inr, List, [], ◌∷◌, ◌++◌, Option, Some, None, min, refl, sym, subst, ◌∙◌, arith}
use Rattle.std.proofs.lemmas.Bool.{cases_Bool}
use Rattle.std.proofs.lemmas.List.Elements.{All-contains, All-from_recursion, Contains-append_cases}
use Rattle.std.specs.Prelude.{Contains, IfSome, nat_le}
use Rattle.std.specs.List.{AllByRecursion}
use Rattle.std.specs.Option.{option_map_or}
use Rattle.mc_packet.specs.declared.choice.Starts.{Starts}
use Rattle.mc_packet.specs.declared.packet.Packet.{Packet}
use Rattle.mc_packet.specs.declared.walk.Ending.{Ending}
use Rattle.mc_packet.specs.declared.walk.Level.{Level}
use Rattle.mc_packet.specs.declared.walk.Mark.{Mark}
use Rattle.mc_walk.specs.declared.plan.Plan.{Plan}
use Rattle.mc_walk.specs.declared.plan.Step.{Step}
use Rattle.mc_walk.specs.declared.plan.Step.TheVariants.{End, On}
use Rattle.mc_walk.specs.Walk.{step_at, steps, Rest, film_walk}
use Rattle.mc_walk.specs.Parts.{opening_mark, Part, part, part_after, part_at, place_of, level_of, joined, joined_after, IsMark}
use Rattle.mc_walk.specs.Parts.IsMark.{at_opening}
use Rattle.mc_walk.proofs.Framing.{Framed, step-framed}
use Rattle.mc_walk.proofs.Joining.{parts-are-whole}
use Rattle.mc_walk.proofs.Lanes.{all-weaker, IsFrom}
use Rattle.mc_walk.proofs.Marks.{block-marked}
use Rattle.mc_journal.specs.Used.{least_start, place_of_starts}
use Rattle.mc_index.specs.Answers.{IsStart, AreOfBlocks}
use Rattle.mc_index.specs.Fronts.{Front}
use Rattle.mc_filmed.specs.Marks.{mark_at}
use Rattle.mc_index.specs.Fronts.Front.{at_opening as opening_read, read_on}
use Rattle.mc_index.specs.Scans.{IsPlan}
use Rattle.mc_index.proofs.Fronts.{front-mark}
use Rattle.mc_index.proofs.Marking.{mark-first}

-- ---- a part's packets are of one block

abbrev AreOne : List Packet → Type 0
AreOne [] = Unit {0}
AreOne (p ∷ ps) = AllByRecursion (λ (q : Packet). q.pos.block ≡ p.pos.block) ps

frames-one : (place : ℕ) (ps : List Packet) → AllByRecursion (IsFrom place 0) ps → AreOne ps
frames-one place [] h = tt
frames-one place (p ∷ ps) h = all-weaker (IsFrom place 0) (λ (q : Packet). q.pos.block ≡ p.pos.block) (λ q g. g.0 ∙ sym h.0.0) ps h.1

step-one : (step : Step) (place : ℕ) (level : Level) (f : ℕ → Level → Part) → Framed place step → ((to : ℕ) (inner : Level) → AreOne (f to inner).packets) → AreOne (part_after place level step f).packets
step-one (End ending) place level f framed on = tt
step-one (On to inner None) place level f framed on = on to inner
step-one (On to inner (Some ps)) place level f framed on = frames-one place ps framed.0

part-one : (n : ℕ) (plan : Plan) (place : ℕ) (level : Level) → AreOne (part n plan place level).packets
unfolding part
part-one zero plan place level = tt
part-one (suc n) plan place level = step-one (step_at plan place level) place level (λ to inner. part n plan to inner) (step-framed plan place level) (λ to inner. part-one n plan to inner)

-- ---- the part of a packet

-- a part that was read from the opening on has a packet of the block
pub record IsRead (plan : Plan) (block : ℕ) : Type 0 where
  pub count : ℕ
  pub at : Mark
  pub before : List Packet
  pub front : Front plan count at before
  pub first : Packet
  pub others : List Packet
  pub packets : (part_at plan at).packets ≡ first ∷ others
  pub of_block : first.pos.block ≡ block

read-first : (plan : Plan) (n : ℕ) (m : Mark) (before : List Packet) (p : Packet) → Front plan n m before → (ps : List Packet) → (part_at plan m).packets ≡ ps → AreOne ps → Contains ps p → IsRead plan p.pos.block
read-first plan n m before p front [] is one among = absurd (let h = among.1 in omega arith)
read-first plan n m before p front (q ∷ qs) is one among =
    record {
      count = n;
      at = m;
      before = before;
      front = front;
      first = q;
      others = qs;
      packets = is;
      of_block = sym (All-contains (λ (r : Packet). r.pos.block ≡ q.pos.block) (q ∷ qs) p (All-from_recursion (λ (r : Packet). r.pos.block ≡ q.pos.block) (q ∷ qs) (refl, one)) among);
    }

read-here : (plan : Plan) (n : ℕ) (m : Mark) (before : List Packet) (p : Packet) → Front plan n m before → Contains (part_at plan m).packets p → IsRead plan p.pos.block
read-here plan n m before p front among = read-first plan n m before p front (part_at plan m).packets refl (part-one (steps plan) plan (place_of plan m) (level_of m)) among

read-after : (plan : Plan) (n : ℕ) (m : Mark) (before : List Packet) (p : Packet) (on : Mark → Rest) → Front plan n m before → (ending : Option Ending) → (part_at plan m).ending ≡ ending
    → ((part_at plan m).ending ≡ None → Contains (on (part_at plan m).to).0 p → IsRead plan p.pos.block)
    → Contains (joined_after (part_at plan m) on).0 p → IsRead plan p.pos.block
read-after plan n m before p on front (Some e) is further among = read-here plan n m before p front (rw is at among)
read-after plan n m before p on front None is further among =
    elim (Contains-append_cases (part_at plan m).packets (on (part_at plan m).to).0 p (rw is at among)) [ inl now ↦ read-here plan n m before p front now | inr later ↦ further is later ]

read-from : (k : ℕ) (plan : Plan) (n : ℕ) (m : Mark) (before : List Packet) (p : Packet) → Front plan n m before → Contains (joined k plan m).0 p → IsRead plan p.pos.block
unfolding joined
read-from zero plan n m before p front among = absurd (let h = among.1 in omega arith)
read-from (suc k) plan n m before p front among =
    read-after plan n m before p (λ next. joined k plan next) front (part_at plan m).ending refl
    (λ goes later. read-from k plan (n + 1) (part_at plan m).to (before ++ (part_at plan m).packets) p (read_on n m before front goes) later) among

-- ---- the mark at a start

-- a block of a film has a mark of it
pub block-mark : (plan : Plan) (p : Packet) → IsPlan plan → Contains (film_walk plan).0 p → IsMark plan (mark_at plan p.pos.block)
block-mark plan p is among =
    let whole = parts-are-whole plan is.1 in
    let r = read-from (steps plan) plan 0 opening_mark [] p opening_read (subst (λ (x : Rest). Contains x.0 p) (sym whole) among) in
    let there = block-marked plan r.at r.first r.others is.0 is.1 (front-mark plan r.count r.at r.before r.front) r.packets in
    subst (λ block. IsMark plan (mark_at plan block)) r.of_block
    (subst (IsMark plan) (sym (mark-first plan r.count r.at r.before r.first r.others is r.front r.packets)) there.0)

start-mark : (plan : Plan) (place : ℕ) → IsPlan plan → IsStart plan place → IsMark plan (mark_at plan place)
start-mark plan place is (inl zero_is) = subst (λ n. IsMark plan (mark_at plan n)) (sym zero_is) at_opening
start-mark plan place is (inr there) = subst (λ n. IsMark plan (mark_at plan n)) there.2 (block-mark plan there.0 is there.1)

least-start : (plan : Plan) (a b : Option ℕ) → IfSome a (IsStart plan) → IfSome b (IsStart plan) → IfSome (least_start a b) (IsStart plan)
least-start plan None b h g = g
least-start plan (Some a) None h g = h
least-start plan (Some a) (Some b) h g = min-either a b h g
  where
    min-either : (a b : ℕ) → IsStart plan a → IsStart plan b → IsStart plan (min a b)
    min-either a b h g = elim (cases_Bool (nat_le a b)) [
      | inl y ↦ let e : min a b ≡ a = grind arith in subst (IsStart plan) (sym e) h
      | inr n ↦ let e : min a b ≡ b = grind arith in subst (IsStart plan) (sym e) g
    ]

place-start : (plan : Plan) (o : Option ℕ) → IfSome o (IsStart plan) → IsStart plan (option_map_or (λ block. block) o 0)
place-start plan None h = inl refl
place-start plan (Some block) h = h

-- the mark of starts that an index finds is a mark of the film
pub starts-mark : (plan : Plan) (s : Starts) → IsPlan plan → AreOfBlocks plan s → IsMark plan s.mark
starts-mark plan s is blocks =
    subst (IsMark plan) (sym blocks.marked)
    (start-mark plan (place_of_starts s) is (place-start plan (least_start s.video (least_start s.audio s.sub))
    (least-start plan s.video (least_start s.audio s.sub) blocks.video (least-start plan s.audio s.sub blocks.audio blocks.sub))))
