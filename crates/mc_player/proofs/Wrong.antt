-- Wrong journals are not allowed.
use Rattle.std.proofs.Common.{false, ap}
use Rattle.std.proofs.lemmas.Bool.{true≢false}
use Rattle.mc_value.specs.declared.value.Value.{out-Value}
use Rattle.mc_props.specs.declared.facts.Facts.{Facts}
use Rattle.mc_player.specs.Rules.{IsAllowed}
use Rattle.mc_player.specs.Worked.{table}
use Rattle.mc_player.specs.Wrong.{aborts_other, changes_twice, fills_over, learns_between, loads_twice, other_outcome, replies_early, replies_twice, same_name, same_number, same_ticket, skips_write, takes_late, writes_other}
use Rattle.mc_player.proofs.Worked.{same_flag}

pub aborts_other-refused : IsAllowed table aborts_other → ⊥
unfolding out-Value denote.Hole.Carrier.out
aborts_other-refused all = let e = all.0.0.same in cc

pub same_name-refused : IsAllowed table same_name → ⊥
same_name-refused all = let e = all.0.0.unnamed in cc

pub same_number-refused : IsAllowed table same_number → ⊥
same_number-refused all = let e = all.0.0.number in cc

pub changes_twice-refused : IsAllowed table changes_twice → ⊥
unfolding out-Value denote.Hole.Carrier.out
changes_twice-refused all = let s = same_flag false in let e = rw s at all.0.0.same in cc

pub fills_over-refused : IsAllowed table fills_over → ⊥
unfolding out-Value denote.Hole.Carrier.out
fills_over-refused all = let e = all.0.0.fate in cc

pub writes_other-refused : IsAllowed table writes_other → ⊥
writes_other-refused all = true≢false (ap (λ (f : Facts). f.cache.playing) all.0.0.1)

pub learns_between-refused : IsAllowed table learns_between → ⊥
learns_between-refused all = let e = all.0.1.rest in cc

pub replies_early-refused : IsAllowed table replies_early → ⊥
replies_early-refused all = all.0.0.reply

pub replies_twice-refused : IsAllowed table replies_twice → ⊥
replies_twice-refused all = all.0.0.reply

pub skips_write-refused : IsAllowed table skips_write → ⊥
unfolding out-Value denote.Hole.Carrier.out
skips_write-refused all = let e = all.0.0.none_left in cc

pub same_ticket-refused : IsAllowed table same_ticket → ⊥
same_ticket-refused all = let e = all.0.0.new in cc

pub takes_late-refused : IsAllowed table takes_late → ⊥
unfolding out-Value denote.Hole.Carrier.out
takes_late-refused all = let e = all.0.0.goes_on in cc

pub loads_twice-refused : IsAllowed table loads_twice → ⊥
loads_twice-refused all = let e = all.0.0.1.0 in cc

pub other_outcome-refused : IsAllowed table other_outcome → ⊥
other_outcome-refused all = all.0.0
