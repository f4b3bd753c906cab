-- The journal in which an eleventh range comes to stand is used: each record's conditions are computed.
use Rattle.std.proofs.Common.{◌≡◌, ℕ, arith, refl, lit≤}
use Rattle.mc_journal.specs.Films.{rank, first_lane}
use Rattle.mc_journal.specs.Used.{IsUsed, AreNext, onto}
use Rattle.mc_journal.specs.Worked.{usual}
use Rattle.mc_journal.specs.Crowded.{many, begun, five_ranges, ten_ranges, eleventh, crowded, newest_dropped}
use Rattle.mc_journal.proofs.Appending.{used-onto}

begins : IsUsed many usual begun
begins = (((refl, refl), refl, tt), tt)

five : AreNext many usual begun five_ranges
unfolding rank first_lane
five = (((refl, (refl, refl)), refl, tt), ((record { sound = refl; some = refl; tracks = (refl, refl, refl); exact = λ regular. (tt, refl, tt); least = (tt, lit≤ tt, tt) }, refl, λ regular. refl), ((record { sound = refl; here = (refl, refl); onward = lit≤ tt; ends = tt }, refl, (refl, refl)), (((refl, (refl, refl)), refl, tt), ((record { sound = refl; some = refl; tracks = (refl, refl, refl); exact = λ regular. (tt, refl, tt); least = (tt, lit≤ tt, tt) }, refl, λ regular. refl), ((record { sound = refl; here = (refl, refl); onward = lit≤ tt; ends = tt }, refl, (refl, refl)), (((refl, (refl, refl)), refl, tt), ((record { sound = refl; some = refl; tracks = (refl, refl, refl); exact = λ regular. (tt, refl, tt); least = (tt, lit≤ tt, tt) }, refl, λ regular. refl), ((record { sound = refl; here = (refl, refl); onward = lit≤ tt; ends = tt }, refl, (refl, refl)), (((refl, (refl, refl)), refl, tt), ((record { sound = refl; some = refl; tracks = (refl, refl, refl); exact = λ regular. (tt, refl, tt); least = (tt, lit≤ tt, tt) }, refl, λ regular. refl), ((record { sound = refl; here = (refl, refl); onward = lit≤ tt; ends = tt }, refl, (refl, refl)), (((refl, (refl, refl)), refl, tt), ((record { sound = refl; some = refl; tracks = (refl, refl, refl); exact = λ regular. (tt, refl, tt); least = (tt, lit≤ tt, tt) }, refl, λ regular. refl), ((record { sound = refl; here = (refl, refl); onward = lit≤ tt; ends = tt }, refl, (refl, refl)), tt)))))))))))))))

ten : AreNext many usual (onto five_ranges begun) ten_ranges
unfolding rank first_lane
ten = (((refl, (refl, refl)), refl, tt), ((record { sound = refl; some = refl; tracks = (refl, refl, refl); exact = λ regular. (tt, refl, tt); least = (tt, lit≤ tt, tt) }, refl, λ regular. refl), ((record { sound = refl; here = (refl, refl); onward = lit≤ tt; ends = tt }, refl, (refl, refl)), (((refl, (refl, refl)), refl, tt), ((record { sound = refl; some = refl; tracks = (refl, refl, refl); exact = λ regular. (tt, refl, tt); least = (tt, lit≤ tt, tt) }, refl, λ regular. refl), ((record { sound = refl; here = (refl, refl); onward = lit≤ tt; ends = tt }, refl, (refl, refl)), (((refl, (refl, refl)), refl, tt), ((record { sound = refl; some = refl; tracks = (refl, refl, refl); exact = λ regular. (tt, refl, tt); least = (tt, lit≤ tt, tt) }, refl, λ regular. refl), ((record { sound = refl; here = (refl, refl); onward = lit≤ tt; ends = tt }, refl, (refl, refl)), (((refl, (refl, refl)), refl, tt), ((record { sound = refl; some = refl; tracks = (refl, refl, refl); exact = λ regular. (tt, refl, tt); least = (tt, lit≤ tt, tt) }, refl, λ regular. refl), ((record { sound = refl; here = (refl, refl); onward = lit≤ tt; ends = tt }, refl, (refl, refl)), (((refl, (refl, refl)), refl, tt), ((record { sound = refl; some = refl; tracks = (refl, refl, refl); exact = λ regular. (tt, refl, tt); least = (tt, lit≤ tt, tt) }, refl, λ regular. refl), ((record { sound = refl; here = (refl, refl); onward = lit≤ tt; ends = tt }, refl, (refl, refl)), tt)))))))))))))))

one_more : AreNext many usual (onto ten_ranges (onto five_ranges begun)) eleventh
unfolding rank first_lane
one_more = (((refl, (refl, refl)), refl, tt), ((record { sound = refl; some = refl; tracks = (refl, refl, refl); exact = λ regular. (tt, refl, tt); least = (tt, lit≤ tt, tt) }, refl, λ regular. refl), ((tt, refl, (refl, refl, refl, refl)), tt)))

pub crowded-used : IsUsed many usual crowded
crowded-used = used-onto many usual eleventh (onto ten_ranges (onto five_ranges begun)) (used-onto many usual ten_ranges (onto five_ranges begun) (used-onto many usual five_ranges begun begins five) ten) one_more

-- the first lanes of the blocks at 100 and 226
abbrev oldest : ℕ
oldest = 6553600

abbrev newest : ℕ
newest = 14811136

other_place : oldest ≡ newest → ⊥
other_place e = omega arith

pub newest-unused : IsUsed many usual newest_dropped → ⊥
unfolding rank first_lane
newest-unused used = other_place used.0.2.1
