-- The limits that a line sets are within their bounds.
use Rattle.std.proofs.Common.{◌≡◌, ◌≤◌, ◌+◌, ◌*◌, ◌∷◌, [], List, ℕ, length, ap, sym, subst, inl, inr, arith}
use Rattle.std.specs.Prelude.{ℤ, pos, ◌≤ℤ◌, Bool, true, T, Option, Some, None, IfSome, nat_le, unwrap_or, ◌&&◌}
use Rattle.std.specs.Int.Signed.{le_z_yes}
use Rattle.std.proofs.lemmas.Bool.{cases_Bool, le-leb}
use Rattle.mc_script.specs.declared.options.RunLine.{RunLine}
use Rattle.mc_script.specs.declared.options.Setting.{Setting}
use Rattle.mc_script.specs.declared.options.Setting.TheVariants.{Forward, Back, Readahead}
use Rattle.mc_script.specs.declared.options.Chosen.{Chosen}
use Rattle.mc_script.specs.Options.{limits_of, names_at, nanoseconds, set_in, unless_set}
use Rattle.mc_script.specs.RunLines.{AreLimits, IsRunLine, Says, Sets}
use Rattle.mc_script.specs.RunLines.Says.{forward, back, readahead}
use Rattle.mc_script.specs.RunLines.Sets.{none, more}
use Rattle.mc_script.specs.Words.{is_name}

abbrev IsForward : ℕ → Type 0
IsForward n = (1 ≤ n) × (n ≤ 1073741824)

abbrev IsAhead : ℤ → Type 0
IsAhead t = (pos 0 ≤ℤ t) × (t ≤ℤ pos 3600000000000)

yes : (b : Bool) → b ≡ true → T b
yes b e = subst T (sym e) tt

ahead : (n : ℕ) → n ≤ 3600000 → IsAhead (nanoseconds n)
ahead n le = (le_z_yes (yes (nat_le 0 (n * 1000000)) (le-leb 0 (n * 1000000) (omega arith))), le_z_yes (yes (nat_le (n * 1000000) 3600000000000) (le-leb (n * 1000000) 3600000000000 (omega arith))))

abbrev IsSettingBounded : Setting → Type 0
IsSettingBounded (Forward n) = IsForward n
IsSettingBounded (Back n) = n ≤ 1073741824
IsSettingBounded (Readahead t) = IsAhead t

setting_bounded : {w : List ℕ} {s : Setting} → Says w s → IsSettingBounded s
setting_bounded (forward digits n e low high) = (low, high)
setting_bounded (back digits n e high) = high
setting_bounded (readahead digits n e high) = ahead n high

record IsChoiceBounded (c : Chosen) : Type 0 where
  forward_in : IfSome c.forward IsForward
  back_in : IfSome c.back (λ n. n ≤ 1073741824)
  readahead_in : IfSome c.readahead IsAhead

unless_same : {A : Type 0} (o : Option A) (c d : Chosen) → unless_set o c ≡ Some d → c ≡ d
unless_same None c d e = cc
unless_same (Some x) c d e = cc

set_bounded : (s : Setting) (c d : Chosen) → IsSettingBounded s → IsChoiceBounded c → set_in s c ≡ Some d → IsChoiceBounded d
set_bounded (Forward n) c d is old e = subst IsChoiceBounded (unless_same c.forward (record c { forward = Some n }) d e) (record { forward_in = is; back_in = old.back_in; readahead_in = old.readahead_in })
set_bounded (Back n) c d is old e = subst IsChoiceBounded (unless_same c.back (record c { back = Some n }) d e) (record { forward_in = old.forward_in; back_in = is; readahead_in = old.readahead_in })
set_bounded (Readahead t) c d is old e = subst IsChoiceBounded (unless_same c.readahead (record c { readahead = Some t }) d e) (record { forward_in = old.forward_in; back_in = old.back_in; readahead_in = is })

all_bounded : {c d : Chosen} {options : List (List ℕ)} → Sets c options d → IsChoiceBounded c → IsChoiceBounded d
all_bounded (none c) old = old
all_bounded (more w s ws before first last says set rest) old = all_bounded rest (set_bounded s before first (setting_bounded says) old set)

or_usual : {A : Type 0} (P : A → Type 0) (o : Option A) (usual : A) → P usual → IfSome o P → P (unwrap_or o usual)
or_usual P None usual u is = u
or_usual P (Some x) usual u is = is

limits_bounded : (c : Chosen) → IsChoiceBounded c → AreLimits (limits_of c)
limits_bounded c is = record { forward = or_usual IsForward c.forward 157286400 (omega arith, omega arith) is.forward_in; back = or_usual (λ n. n ≤ 1073741824) c.back 52428800 (omega arith) is.back_in; readahead = or_usual IsAhead c.readahead (pos 1000000000) (ahead 1000 (omega arith)) is.readahead_in }

-- the limits of a line are those of its options
abbrev line_of : Chosen → ℕ → Option ℕ → RunLine
line_of c at script = record { limits = limits_of c; file = at; script = script }

same_limits : (c : Chosen) (at : ℕ) (script : Option ℕ) (line : RunLine) → Some (line_of c at script) ≡ Some line → limits_of c ≡ line.limits
same_limits c at script line e = let same : line_of c at script ≡ line = cc in ap (λ l. l.limits) same

named_limits : (c : Chosen) (at : ℕ) (names : List (List ℕ)) (line : RunLine) → names_at c at names ≡ Some line → limits_of c ≡ line.limits
named_limits c at [] line = λ e. cc
named_limits c at (f ∷ []) line = elim (cases_Bool (is_name f)) [ inl told ↦ rw told (λ e. same_limits c at None line e) | inr told ↦ rw told (λ e. cc) ]
named_limits c at (f ∷ s ∷ []) line = elim (cases_Bool (is_name f && is_name s)) [ inl told ↦ rw told (λ e. same_limits c at (Some (at + 1)) line e) | inr told ↦ rw told (λ e. cc) ]
named_limits c at (f ∷ s ∷ x ∷ xs) line = λ e. cc

pub line_limits : (words : List (List ℕ)) (line : RunLine) → IsRunLine words line → AreLimits line.limits
line_limits words line is = subst AreLimits (named_limits is.chosen (1 + length is.options) is.names line is.named) (limits_bounded is.chosen (all_bounded is.set (record { forward_in = tt; back_in = tt; readahead_in = tt })))
