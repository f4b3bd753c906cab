-- The acts of a script stand in their places, and their numbers in their bounds.
use Rattle.std.proofs.Common.{◌≡◌, ◌≤◌, ◌+◌, ◌^◌, ◌∷◌, [], List, ℕ, zero, suc, ◌-◌, refl, ap, sym, subst, arith}
use Rattle.std.specs.Prelude.{ℤ, pos, neg_ℤ, Bool, true, false, T, cond, Option, Some, None, Result, Ok, Err, IfOk, nat_le, unwrap_or, ◌==◌}
use Rattle.std.specs.Int.Signed.{le_z_yes}
use Rattle.std.specs.Option.{option_map}
use Rattle.std.proofs.lemmas.Bool.{cond_both, le-leb, leb-true}
use Rattle.mc_value.specs.Numbers.{place_of}
use Rattle.mc_value.specs.Seconds.{seconds_of, time_of, unsigned_seconds}
use Rattle.mc_script.specs.declared.acts.Act.{Act}
use Rattle.mc_script.specs.declared.acts.Act.TheVariants as acts
use Rattle.mc_script.specs.declared.acts.ScriptError.{ScriptError}
use Rattle.mc_script.specs.declared.acts.ScriptWhy.{ScriptWhy}
use Rattle.mc_script.specs.Forms.{Form, act_of, count_of, may_stand, switch_at, tracks_of}
use Rattle.mc_script.specs.Forms.Form.{seek, switch, show, demux, demux_take, demux_give, read, drain}
use Rattle.mc_script.specs.Script.{Gives, acts_from, before_acts, behind_line, line_act, out_after, script_lines, script_of}
use Rattle.mc_script.specs.Grammar.{SaysLine}
use Rattle.mc_script.specs.Grammar.SaysLine.{comment, no_words, act, bad_words, no_form, no_place, bad_number}
use Rattle.mc_script.specs.Pairing.{AreBounded, IsBounded, IsCount, IsNear, IsPaired, may_act}
use Rattle.mc_script.proofs.GrammarLemmas.{acts_of_text, line_says}
use Rattle.mc_script.proofs.RunLineLemmas.{in_range}

-- times are near

yes : (b : Bool) → b ≡ true → T b
yes b e = subst T (sym e) tt

near_pos : (n : ℕ) → n ≤ 2 ^ 62 → IsNear (pos n)
near_pos n le = (le_z_yes tt, le_z_yes (yes (nat_le n (2 ^ 62)) (le-leb n (2 ^ 62) le)))

near_neg : (n : ℕ) → n ≤ 2 ^ 62 → IsNear (neg_ℤ (pos n))
near_neg zero le = near_pos 0 le
near_neg (suc n) le = (le_z_yes (yes (nat_le n (2 ^ 62 - 1)) (le-leb n (2 ^ 62 - 1) (omega arith))), le_z_yes tt)

within : (b : Bool) (x t : ℤ) → cond b (Some x) None ≡ Some t → (b ≡ true) × (x ≡ t)
within true x t e = (refl, ap (λ o. unwrap_or o x) e)
within false x t e = cc

time_near : (minus : Bool) (o : Option ℕ) (t : ℤ) → time_of minus o ≡ Some t → IsNear t
time_near minus None t e = cc
time_near true (Some n) t e = let k = within (nat_le n (2 ^ 62)) (neg_ℤ (pos n)) t e in subst IsNear k.1 (near_neg n (leb-true n (2 ^ 62) k.0))
time_near false (Some n) t e = let k = within (nat_le n (2 ^ 62)) (pos n) t e in subst IsNear k.1 (near_pos n (leb-true n (2 ^ 62) k.0))

seconds_near : (s : List ℕ) (t : ℤ) → seconds_of s ≡ Some t → IsNear t
seconds_near [] t = λ e. cc
seconds_near (c ∷ cs) t = cond_both (c == 45) (time_of true (unsigned_seconds cs)) (cond (c == 43) (time_of false (unsigned_seconds cs)) (time_of false (unsigned_seconds (c ∷ cs)))) (λ o. o ≡ Some t → IsNear t) (λ _. time_near true (unsigned_seconds cs) t) (λ _. cond_both (c == 43) (time_of false (unsigned_seconds cs)) (time_of false (unsigned_seconds (c ∷ cs))) (λ o. o ≡ Some t → IsNear t) (λ _. time_near false (unsigned_seconds cs) t) (λ _. time_near false (unsigned_seconds (c ∷ cs)) t))

-- counts are in their bounds

count_bounded : (count : Option (List ℕ)) (n : ℕ) → count_of count ≡ Some n → IsCount n
count_bounded None n e = let same : 1 ≡ n = ap (λ o. unwrap_or o 1) e in subst IsCount same (omega arith, omega arith)
count_bounded (Some w) n e = let k = in_range 1 1000000 (place_of w) n e in (k.low, k.high)

-- what a form means

record IsGood (meant : Act) (out : Bool) : Type 0 where
  pub placed : may_act meant out ≡ true
  pub bounded : IsBounded meant

mapped : {A B : Type 0} (f : A → B) (o : Option A) (b : B) (P : B → Type 0) → ((a : A) → o ≡ Some a → P (f a)) → option_map f o ≡ Some b → P b
mapped f None b P each e = cc
mapped f (Some a) b P each e = let same : f a ≡ b = cc in subst P same (each a refl)

here : (one meant : Act) (out : Bool) → IsGood one out → Some one ≡ Some meant → IsGood meant out
here one meant out good e = let same : one ≡ meant = cc in subst (λ a. IsGood a out) same good

switch_good : (out : Bool) (o : Option (List ℕ)) (s : List ℕ) (meant : Act) → switch_at o (seconds_of s) ≡ Some meant → IsGood meant out
switch_good out None s meant e = cc
switch_good out (Some set) s meant e = mapped (λ t. acts.Switch set (Some t)) (seconds_of s) meant (λ a. IsGood a out) (λ t is. record { placed = refl; bounded = seconds_near s t is }) e

form_good : (out : Bool) (form : Form) (meant : Act) → may_stand out form ≡ true → act_of form ≡ Some meant → IsGood meant out
form_good out (seek s dir) meant stands e = mapped (λ t. acts.Seek t dir) (seconds_of s) meant (λ a. IsGood a out) (λ t is. record { placed = refl; bounded = seconds_near s t is }) e
form_good out (switch tracks None) meant stands e = mapped (λ set. acts.Switch set None) (tracks_of tracks) meant (λ a. IsGood a out) (λ set is. record { placed = refl; bounded = tt }) e
form_good out (switch tracks (Some s)) meant stands e = switch_good out (tracks_of tracks) s meant e
form_good out show meant stands e = here acts.Show meant out (record { placed = refl; bounded = tt }) e
form_good out (demux count) meant stands e = mapped acts.Demux (count_of count) meant (λ a. IsGood a out) (λ n is. record { placed = stands; bounded = count_bounded count n is }) e
form_good out demux_take meant stands e = here acts.DemuxTake meant out (record { placed = stands; bounded = tt }) e
form_good out demux_give meant stands e = here acts.DemuxGive meant out (record { placed = stands; bounded = tt }) e
form_good out (read kind count) meant stands e = mapped (acts.Read kind) (count_of count) meant (λ a. IsGood a out) (λ n is. record { placed = refl; bounded = count_bounded count n is }) e
form_good out drain meant stands e = here acts.Drain meant out (record { placed = stands; bounded = tt }) e

-- what a line says

says_good : {out : Bool} {line : List ℕ} {r : Result (Option Act) ScriptWhy} → SaysLine out line r → (one : Act) → r ≡ Ok (Some one) → IsGood one out
says_good (comment out line told) one e = cc
says_good (no_words out line told is) one e = cc
says_good (act out line words form some told is has stands means) one e = let same : some ≡ one = cc in subst (λ a. IsGood a out) same (form_good out form some stands means)
says_good (bad_words out line n told is) one e = cc
says_good (no_form out line w ws told is others) one e = cc
says_good (no_place out line words form told is has stands) one e = cc
says_good (bad_number out line words form told is has stands means) one e = cc

line_good : (out : Bool) (line : List ℕ) (one : Act) → line_act out line ≡ Ok (Some one) → IsGood one out
line_good out line one e = says_good (line_says out line) one e

-- all acts

record AreGood (script : List (ℕ × Act)) (out : Bool) : Type 0 where
  pub paired : IsPaired out script
  pub bounded : AreBounded script

abbrev Answer : Type 0
Answer = Result (List (ℕ × Act)) (ℕ × ScriptWhy)

in_front : (n : ℕ) (one : Act) (out : Bool) (r : Answer) (script : List (ℕ × Act)) → IsGood one out → ((more : List (ℕ × Act)) → r ≡ Ok more → AreGood more (out_after one out)) → before_acts (n, one) r ≡ Ok script → AreGood script out
in_front n one out (Err refusal) script good others e = cc
in_front n one out (Ok more) script good others e = let rest = others more refl in let same : (n, one) ∷ more ≡ script = cc in subst (λ a. AreGood a out) same (record { paired = (good.placed, rest.paired); bounded = (good.bounded, rest.bounded) })

at_next : (n : ℕ) (out : Bool) (line : List ℕ) (lines : List (List ℕ)) (r : Result (Option Act) ScriptWhy) (script : List (ℕ × Act)) → line_act out line ≡ r → ((after : Bool) (more : List (ℕ × Act)) → acts_from (n + 1) after lines ≡ Ok more → AreGood more after) → behind_line n r out (λ after. acts_from (n + 1) after lines) ≡ Ok script → AreGood script out
at_next n out line lines (Err why) script is others e = cc
at_next n out line lines (Ok None) script is others e = others out script e
at_next n out line lines (Ok (Some one)) script is others e = in_front n one out (acts_from (n + 1) (out_after one out) lines) script (line_good out line one is) (others (out_after one out)) e

acts_good : (lines : List (List ℕ)) (n : ℕ) (out : Bool) (script : List (ℕ × Act)) → acts_from n out lines ≡ Ok script → AreGood script out
acts_good [] n out script e = let same : [] ≡ script = cc in subst (λ a. AreGood a out) same (record { paired = tt; bounded = tt })
acts_good (line ∷ lines) n out script e = at_next n out line lines (line_act out line) script refl (acts_good lines (n + 1)) e

script_good : (r : Result (List (ℕ × Act)) ScriptError) (text : List ℕ) → Gives r (script_of text) → IfOk r (λ script. AreGood script false)
script_good (Ok script) text e = acts_good (script_lines text) 1 false script (acts_of_text text script e)
script_good (Err why) text e = tt

pub script_paired : (r : Result (List (ℕ × Act)) ScriptError) (text : List ℕ) → Gives r (script_of text) → IfOk r (IsPaired false)
script_paired (Ok script) text e = (script_good (Ok script) text e).paired
script_paired (Err why) text e = tt

pub script_bounded : (r : Result (List (ℕ × Act)) ScriptError) (text : List ℕ) → Gives r (script_of text) → IfOk r AreBounded
script_bounded (Ok script) text e = (script_good (Ok script) text e).bounded
script_bounded (Err why) text e = tt
