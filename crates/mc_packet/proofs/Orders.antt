-- Packets in order of their places, told by neighbours.
use Rattle.std.specs.Prelude.{List, [], ◌∷◌}
use Rattle.std.proofs.Common.{arith, inl, inr}
use Rattle.std.specs.List.{AllByRecursion}
use Rattle.mc_packet.specs.declared.packet.Packet.{Packet}
use Rattle.mc_packet.specs.declared.packet.Pos.{Pos}
use Rattle.mc_packet.specs.Shape.{IsPosBefore, StandsBefore, InOrder, IsBeforeFirst}

before_trans : (p q r : Pos) → IsPosBefore p q → IsPosBefore q r → IsPosBefore p r
before_trans p q r (inl a) (inl b) = inl (omega (arith, a, b))
before_trans p q r (inl a) (inr b) = inl (omega (arith, a, b.0))
before_trans p q r (inr a) (inl b) = inl (omega (arith, a.0, b))
before_trans p q r (inr a) (inr b) = inr (omega (arith, a.0, b.0), omega (arith, a.1, b.1))

before_all : (p q : Packet) (rs : List Packet) → StandsBefore p q → AllByRecursion (StandsBefore q) rs → AllByRecursion (StandsBefore p) rs
before_all p q [] b all = all
before_all p q (r ∷ rs) b all = (before_trans p.pos q.pos r.pos b all.0, before_all p q rs b all.1)

pub order_on : (p : Packet) (rs : List Packet) → IsBeforeFirst p.pos rs → InOrder rs → InOrder (p ∷ rs)
order_on p [] b o = (tt, tt)
order_on p (r ∷ rs) b o = ((b, before_all p r rs b o.0), o)

pub order_first : (p : Packet) (rs : List Packet) → InOrder (p ∷ rs) → IsBeforeFirst p.pos rs
order_first p [] o = tt
order_first p (r ∷ rs) o = o.0.0
