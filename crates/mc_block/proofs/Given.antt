-- What holds of the value of a definition holds of a call that gives it.
use Rattle.std.proofs.Common.{Result, Ok, Err, IfOk, subst}
use Rattle.std.specs.Prelude.{OnOk}
use Rattle.mc_block.specs.declared.error.BlockError.{BlockError}
use Rattle.mc_block.specs.Block.{Gives}

pub given : {X : Type 0} (P : X → Type 0) (r value : Result X BlockError) → Gives r value → IfOk value P → IfOk r P
given P (Err e) value g h = tt
given {X} P (Ok x) value g h = let Q : Result X BlockError → Type 0 = λ v. IfOk v P in subst Q g h

-- two facts of an answer make a third
pub on_both : {T E : Type 0} {P Q R : Type 0} (r : Result T E) → OnOk r P → OnOk r Q → (P → Q → R) → OnOk r R
on_both (Err e) p q f = tt
on_both (Ok x) p q f = f p q
