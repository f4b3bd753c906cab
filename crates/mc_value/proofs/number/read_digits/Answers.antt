use Rattle.std.proofs.Common.{arith, ap, sym, ◌∙◌, ◌≡◌, ◌≤◌, ◌+◌, ◌-◌, ◌*◌, ◌^◌, true, slice_index_or}
use Rattle.std.specs.Char.{is_ascii_digit}
use Rattle.mc_value.specs.Numbers.{below_word}
use Rattle.mc_value.proofs.DigitLemmas.{all_read, too_great_at}
use Rattle.mc_value.proofs.number.read_digits.Goals as goal

pub returns-in_err-checked_mul : goal.returns-in_err-checked_mul
returns-in_err-checked_mul c =
    let told : is_ascii_digit (slice_index_or c.args.digits.now c.loop-digit.digit-index 0) ≡ true = cc in
    let great : 2 ^ 64 ≤ c.loop-digit.number * 10 + (slice_index_or c.args.digits.now c.loop-digit.digit-index 0 - 48) = omega arith in
    c.from_residual.ensures ∙ sym (too_great_at c.loop-digit.number c.loop-digit.digit-index c.args.digits.now (omega arith) told great) ∙ ap below_word c.loop-digit.invariant.whole

pub returns-in_err-number : goal.returns-in_err-number
returns-in_err-number c =
    let told : is_ascii_digit (slice_index_or c.args.digits.now c.loop-digit.digit-index 0) ≡ true = cc in
    let great : 2 ^ 64 ≤ c.loop-digit.number * 10 + (slice_index_or c.args.digits.now c.loop-digit.digit-index 0 - 48) = omega arith in
    c.from_residual-in_err-number.ensures ∙ sym (too_great_at c.loop-digit.number c.loop-digit.digit-index c.args.digits.now (omega arith) told great) ∙ ap below_word c.loop-digit.invariant.whole

pub returns : goal.returns
returns c = all_read c.loop-digit.number c.loop-digit.digit-index c.args.digits.now (omega arith) (omega arith) ∙ ap below_word c.loop-digit.invariant.whole
