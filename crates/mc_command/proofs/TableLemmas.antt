-- Words are parsed as the command that the table has for them, or up to where they leave it.
use Rattle.std.proofs.Common.{cond, ◌≡◌, ℕ, zero, suc, ℤ, pos, leb, ◌^◌, ◌-◌, ◌+◌, ◌<◌, ◌≤◌, Bool, true, false, List, [], ◌∷◌, ◌++◌, length, take, drop, refl, sym, ap, ◌∙◌, subst, arith, append_assoc, inl, inr}
use Rattle.std.proofs.lemmas.Bool.{cases_Bool, cases_order, cond_both, le-leb, leb-true}
use Rattle.std.proofs.lemmas.List.{take-append-drop}
use Rattle.std.proofs.lemmas.Slice.Eq.{bytes_eq-Decides}
use Rattle.std.specs.Int.Signed.{le_z_yes}
use Rattle.std.specs.Option.{unwrap_or}
use Rattle.std.specs.Prelude.{◌≤ℤ◌, neg_ℤ, T, IfOk, ◌==◌, if◌then◌else◌, codes, Option, Some, None, Result, Ok, Err}
use Rattle.std.specs.Str.{bytes_eq}
use Rattle.mc_value.specs.Seconds.{seconds_of, time_of, unsigned_seconds}
use Rattle.mc_command.specs.declared.command.Command.{Command}
use Rattle.mc_command.specs.declared.command.CommandError.{CommandError}
use Rattle.mc_command.specs.declared.command.Command.TheVariants as commands
use Rattle.mc_command.specs.Commands.{Parses, flag_of, parsed, seek_with, verb_of}
use Rattle.mc_command.specs.Table.{IsFirstBad, IsNear, Means, Says, Starts, flag}
use Rattle.mc_command.specs.Table.Says.{seek, seek_by_flag, seek_forward, set, cycle, message, message_to, ignore, quit}

-- what is parsed of a row's words

with_flag : (t : ℤ) (absolute : Bool) (rest : List (List ℕ)) → seek_with t (flag_of (flag absolute)) rest ≡ seek_with t (Some absolute) rest
with_flag t true rest = refl
with_flag t false rest = refl

row_parsed : {ws : List (List ℕ)} {command : Command} → Says ws command → parsed ws ≡ Ok command
row_parsed (seek s t e) = rw e refl
row_parsed (seek_by_flag s t absolute e) = rw e (with_flag t absolute [])
row_parsed (seek_forward s t absolute e) = rw e (with_flag t absolute (codes "forward" ∷ []))
row_parsed (set name value) = refl
row_parsed (cycle name) = refl
row_parsed (message w ws) = refl
row_parsed (message_to client w ws) = refl
row_parsed ignore = refl
row_parsed quit = refl

-- a word that no command has at its place, whatever follows
no_row : (ws : List (List ℕ)) (n : ℕ) → parsed ws ≡ Err n → (command : Command) → Says ws command → ⊥
no_row ws n e command row = let k = sym (row_parsed row) ∙ e in cc

abbrev Stays : List (List ℕ) → ℕ → Type 0
Stays ws n = (more : List (List ℕ)) → parsed (take (n + 1) ws ++ more) ≡ Err n

first_bad : (ws : List (List ℕ)) (n : ℕ) → n ≤ length ws → Starts (take n ws) → parsed ws ≡ Err n → (n < length ws → Stays ws n) → IsFirstBad ws n
first_bad ws n within before e stays = record { within = within; before = before; no_command = no_row ws n e; wrong = λ lt starts. no_row (take (n + 1) ws ++ starts.0) n (stays lt starts.0) starts.1 starts.2 }

-- a row's words, or words that leave the table

is_row : (ws : List (List ℕ)) (command : Command) → Says ws command → Means ws (parsed ws)
is_row ws command row = subst (Means ws) (sym (row_parsed row)) row

is_bad : (ws : List (List ℕ)) (n : ℕ) → n ≤ length ws → Starts (take n ws) → parsed ws ≡ Err n → (n < length ws → Stays ws n) → Means ws (parsed ws)
is_bad ws n within before e stays = subst (Means ws) (sym e) (first_bad ws n within before e stays)

same_word : (w v : List ℕ) → bytes_eq w v ≡ true → w ≡ v
same_word w v told = (bytes_eq-Decides w v).0 told

-- `seek`

module _ (s : List ℕ) (t : ℤ) (e : seconds_of s ≡ Some t) where
  flag_parsed : (absolute : Bool) (rest : List (List ℕ)) → parsed (codes "seek" ∷ s ∷ flag absolute ∷ rest) ≡ seek_with t (Some absolute) rest
  flag_parsed absolute rest = rw e (with_flag t absolute rest)

  other_word : (absolute : Bool) (w : List ℕ) (rest : List (List ℕ)) → bytes_eq w (codes "forward") ≡ false → parsed (codes "seek" ∷ s ∷ flag absolute ∷ w ∷ rest) ≡ Err 3
  other_word absolute w [] told = flag_parsed absolute (w ∷ []) ∙ rw told refl
  other_word absolute w (x ∷ xs) told = flag_parsed absolute (w ∷ x ∷ xs) ∙ rw told refl

  behind_forward : (absolute : Bool) (rest : List (List ℕ)) → Means (codes "seek" ∷ s ∷ flag absolute ∷ codes "forward" ∷ rest) (parsed (codes "seek" ∷ s ∷ flag absolute ∷ codes "forward" ∷ rest))
  behind_forward absolute [] = is_row _ _ (seek_forward s t absolute e)
  behind_forward absolute (x ∷ xs) = is_bad (codes "seek" ∷ s ∷ flag absolute ∷ codes "forward" ∷ x ∷ xs) 4 (omega arith) ([], commands.Seek t absolute true, seek_forward s t absolute e) (flag_parsed absolute (codes "forward" ∷ x ∷ xs)) (λ lt more. flag_parsed absolute (codes "forward" ∷ x ∷ more))

  behind_flag : (absolute : Bool) (rest : List (List ℕ)) → Means (codes "seek" ∷ s ∷ flag absolute ∷ rest) (parsed (codes "seek" ∷ s ∷ flag absolute ∷ rest))
  behind_flag absolute [] = is_row _ _ (seek_by_flag s t absolute e)
  behind_flag absolute (w ∷ rest) = elim (cases_Bool (bytes_eq w (codes "forward"))) [ inl told ↦ subst (λ v. Means (codes "seek" ∷ s ∷ flag absolute ∷ v ∷ rest) (parsed (codes "seek" ∷ s ∷ flag absolute ∷ v ∷ rest))) (sym (same_word w (codes "forward") told)) (behind_forward absolute rest) | inr told ↦ is_bad (codes "seek" ∷ s ∷ flag absolute ∷ w ∷ rest) 3 (omega arith) ([], commands.Seek t absolute false, seek_by_flag s t absolute e) (other_word absolute w rest told) (λ lt more. other_word absolute w more told) ]

  at_flag : (f : List ℕ) (absolute : Bool) (rest : List (List ℕ)) → bytes_eq f (flag absolute) ≡ true → Means (codes "seek" ∷ s ∷ f ∷ rest) (parsed (codes "seek" ∷ s ∷ f ∷ rest))
  at_flag f absolute rest told = subst (λ v. Means (codes "seek" ∷ s ∷ v ∷ rest) (parsed (codes "seek" ∷ s ∷ v ∷ rest))) (sym (same_word f (flag absolute) told)) (behind_flag absolute rest)

  no_flag : (f : List ℕ) (rest : List (List ℕ)) → bytes_eq f (codes "relative") ≡ false → bytes_eq f (codes "absolute") ≡ false → Means (codes "seek" ∷ s ∷ f ∷ rest) (parsed (codes "seek" ∷ s ∷ f ∷ rest))
  no_flag f rest a b = is_bad (codes "seek" ∷ s ∷ f ∷ rest) 2 (omega arith) ([], commands.Seek t false false, seek s t e) (rw (e, a, b) refl) (λ lt more. rw (e, a, b) refl)

  behind_seconds : (rest : List (List ℕ)) → Means (codes "seek" ∷ s ∷ rest) (parsed (codes "seek" ∷ s ∷ rest))
  behind_seconds [] = is_row _ _ (seek s t e)
  behind_seconds (f ∷ rest) = elim (cases_Bool (bytes_eq f (codes "relative"))) [ inl told ↦ at_flag f false rest told | inr a ↦ elim (cases_Bool (bytes_eq f (codes "absolute"))) [ inl told ↦ at_flag f true rest told | inr b ↦ no_flag f rest a b ] ]

seek_to_0 : Starts (codes "seek" ∷ [])
seek_to_0 = (codes "0" ∷ [], commands.Seek (pos 0) false false, seek (codes "0") (pos 0) refl)

at_seconds : (s : List ℕ) (rest : List (List ℕ)) (o : Option ℤ) → seconds_of s ≡ o → Means (codes "seek" ∷ s ∷ rest) (parsed (codes "seek" ∷ s ∷ rest))
at_seconds s rest None e = is_bad (codes "seek" ∷ s ∷ rest) 1 (omega arith) seek_to_0 (rw e refl) (λ lt more. rw e refl)
at_seconds s rest (Some t) e = behind_seconds s t e rest

abbrev Parsed : List ℕ → List (List ℕ) → Type 0
Parsed name args = Means (name ∷ args) (parsed (name ∷ args))

behind_seek : (args : List (List ℕ)) → Parsed (codes "seek") args
behind_seek [] = is_bad (codes "seek" ∷ []) 1 (omega arith) seek_to_0 refl (λ lt. absurd (omega arith))
behind_seek (s ∷ rest) = at_seconds s rest (seconds_of s) refl

-- the other commands

behind_set : (args : List (List ℕ)) → Parsed (codes "set") args
behind_set [] = is_bad (codes "set" ∷ []) 1 (omega arith) ([] ∷ [] ∷ [], commands.Set [] [], set [] []) refl (λ lt. absurd (omega arith))
behind_set (name ∷ []) = is_bad (codes "set" ∷ name ∷ []) 2 (omega arith) ([] ∷ [], commands.Set name [], set name []) refl (λ lt. absurd (omega arith))
behind_set (name ∷ value ∷ []) = is_row _ _ (set name value)
behind_set (name ∷ value ∷ x ∷ xs) = is_bad (codes "set" ∷ name ∷ value ∷ x ∷ xs) 3 (omega arith) ([], commands.Set name value, set name value) refl (λ lt more. refl)

behind_cycle : (args : List (List ℕ)) → Parsed (codes "cycle") args
behind_cycle [] = is_bad (codes "cycle" ∷ []) 1 (omega arith) ([] ∷ [], commands.Cycle [], cycle []) refl (λ lt. absurd (omega arith))
behind_cycle (name ∷ []) = is_row _ _ (cycle name)
behind_cycle (name ∷ x ∷ xs) = is_bad (codes "cycle" ∷ name ∷ x ∷ xs) 2 (omega arith) ([], commands.Cycle name, cycle name) refl (λ lt more. refl)

behind_message : (args : List (List ℕ)) → Parsed (codes "script-message") args
behind_message [] = is_bad (codes "script-message" ∷ []) 1 (omega arith) ([] ∷ [], commands.Message ([] ∷ []), message [] []) refl (λ lt. absurd (omega arith))
behind_message (w ∷ ws) = is_row _ _ (message w ws)

behind_message_to : (args : List (List ℕ)) → Parsed (codes "script-message-to") args
behind_message_to [] = is_bad (codes "script-message-to" ∷ []) 1 (omega arith) ([] ∷ [] ∷ [], commands.MessageTo [] ([] ∷ []), message_to [] [] []) refl (λ lt. absurd (omega arith))
behind_message_to (client ∷ []) = is_bad (codes "script-message-to" ∷ client ∷ []) 2 (omega arith) ([] ∷ [], commands.MessageTo client ([] ∷ []), message_to client [] []) refl (λ lt. absurd (omega arith))
behind_message_to (client ∷ w ∷ ws) = is_row _ _ (message_to client w ws)

behind_ignore : (args : List (List ℕ)) → Parsed (codes "ignore") args
behind_ignore [] = is_row _ _ ignore
behind_ignore (x ∷ xs) = is_bad (codes "ignore" ∷ x ∷ xs) 1 (omega arith) ([], commands.Ignore, ignore) refl (λ lt more. refl)

behind_quit : (args : List (List ℕ)) → Parsed (codes "quit") args
behind_quit [] = is_row _ _ quit
behind_quit (x ∷ xs) = is_bad (codes "quit" ∷ x ∷ xs) 1 (omega arith) ([], commands.Quit, quit) refl (λ lt more. refl)

-- by the first word

no_verb : (name : List ℕ) (args : List (List ℕ)) → verb_of name ≡ None → Parsed name args
no_verb name args e = is_bad (name ∷ args) 0 (omega arith) (codes "ignore" ∷ [], commands.Ignore, ignore) (rw e refl) (λ lt more. rw e refl)

-- either the word is this one, or the rest of the chain decides
is_or : (name v : List ℕ) (args : List (List ℕ)) → Parsed v args → (bytes_eq name v ≡ false → Parsed name args) → Parsed name args
is_or name v args here others = elim (cases_Bool (bytes_eq name v)) [ inl told ↦ subst (λ n. Parsed n args) (sym (same_word name v told)) here | inr told ↦ others told ]

means : (ws : List (List ℕ)) → Means ws (parsed ws)
means [] = is_bad [] 0 (omega arith) (codes "ignore" ∷ [], commands.Ignore, ignore) refl (λ lt. absurd (omega arith))
means (name ∷ args) =
    is_or name (codes "seek") args (behind_seek args) (λ a.
    is_or name (codes "set") args (behind_set args) (λ b.
    is_or name (codes "cycle") args (behind_cycle args) (λ c.
    is_or name (codes "script-message") args (behind_message args) (λ d.
    is_or name (codes "script-message-to") args (behind_message_to args) (λ e.
    is_or name (codes "ignore") args (behind_ignore args) (λ f.
    is_or name (codes "quit") args (behind_quit args) (λ g.
    no_verb name args (rw (a, b, c, d, e, f, g) refl))))))))

-- nothing else is meant

take_less : {A : Type 0} (m n : ℕ) (xs : List A) → m ≤ n → take m (take n xs) ≡ take m xs
take_less zero n xs le = refl
take_less (suc m) zero xs le = absurd (omega arith)
take_less (suc m) (suc n) [] le = refl
take_less (suc m) (suc n) (x ∷ xs) le = ap (λ l. x ∷ l) (take_less m n xs (omega arith))

shorter : (ws : List (List ℕ)) (m n : ℕ) → m ≤ n → Starts (take n ws) → Starts (take m ws)
shorter ws m n le starts =
    let split : take n ws ≡ take m ws ++ drop m (take n ws) = sym (take-append-drop m (take n ws)) ∙ ap (λ l. l ++ drop m (take n ws)) (take_less m n ws le) in
    (drop m (take n ws) ++ starts.0, starts.1, subst (λ l. Says l starts.1) (ap (λ l. l ++ starts.0) split ∙ append_assoc (take m ws) (drop m (take n ws)) starts.0) starts.2)

not_later : (ws : List (List ℕ)) (m n : ℕ) → IsFirstBad ws m → IsFirstBad ws n → m < n → ⊥
not_later ws m n first later lt = first.wrong (omega (arith, later.within)) (shorter ws (m + 1) n (omega arith) later.before)

only_bad : (ws : List (List ℕ)) (r : Result Command ℕ) → Means ws r → (n : ℕ) → IsFirstBad ws n → r ≡ Err n
only_bad ws (Ok command) row n bad = absurd (bad.no_command command row)
only_bad ws (Err m) one n bad = elim (cases_order m n) [ inl same ↦ ap Err same | inr (inl lt) ↦ absurd (not_later ws m n one bad lt) | inr (inr lt) ↦ absurd (not_later ws n m bad one lt) ]

pub parsed_means : (ws : List (List ℕ)) → Means ws (parsed ws)
parsed_means ws = means ws

pub parsed_only : (ws : List (List ℕ)) (said : Result Command ℕ) → Means ws said → parsed ws ≡ said
parsed_only ws (Ok command) row = row_parsed row
parsed_only ws (Err n) bad = only_bad ws (parsed ws) (means ws) n bad

-- times are near

abbrev Near : ℤ → Type 0
Near t = (neg_ℤ (pos (2 ^ 62)) ≤ℤ t) × (t ≤ℤ pos (2 ^ 62))

yes : (b : Bool) → b ≡ true → T b
yes b e = subst T (sym e) tt

near_pos : (n : ℕ) → n ≤ 2 ^ 62 → Near (pos n)
near_pos n le = (le_z_yes tt, le_z_yes (yes (leb n (2 ^ 62)) (le-leb n (2 ^ 62) le)))

near_neg : (n : ℕ) → n ≤ 2 ^ 62 → Near (neg_ℤ (pos n))
near_neg zero le = near_pos 0 le
near_neg (suc n) le = (le_z_yes (yes (leb n (2 ^ 62 - 1)) (le-leb n (2 ^ 62 - 1) (omega arith))), le_z_yes tt)

within : (b : Bool) (x t : ℤ) → cond b (Some x) None ≡ Some t → (b ≡ true) × (x ≡ t)
within true x t e = (refl, ap (λ o. unwrap_or o x) e)
within false x t e = cc

time_near : (minus : Bool) (o : Option ℕ) (t : ℤ) → time_of minus o ≡ Some t → Near t
time_near minus None t e = cc
time_near true (Some n) t e = let k = within (leb n (2 ^ 62)) (neg_ℤ (pos n)) t e in subst Near k.1 (near_neg n (leb-true n (2 ^ 62) k.0))
time_near false (Some n) t e = let k = within (leb n (2 ^ 62)) (pos n) t e in subst Near k.1 (near_pos n (leb-true n (2 ^ 62) k.0))

seconds_near : (s : List ℕ) (t : ℤ) → seconds_of s ≡ Some t → Near t
seconds_near [] t = λ e. cc
seconds_near (c ∷ cs) t = cond_both (c == 45) (time_of true (unsigned_seconds cs)) (if c == 43 then time_of false (unsigned_seconds cs) else time_of false (unsigned_seconds (c ∷ cs))) (λ o. o ≡ Some t → Near t) (λ _. time_near true (unsigned_seconds cs) t) (λ _. cond_both (c == 43) (time_of false (unsigned_seconds cs)) (time_of false (unsigned_seconds (c ∷ cs))) (λ o. o ≡ Some t → Near t) (λ _. time_near false (unsigned_seconds cs) t) (λ _. time_near false (unsigned_seconds (c ∷ cs)) t))

row_near : {ws : List (List ℕ)} {command : Command} → Says ws command → IsNear command
row_near (seek s t e) = seconds_near s t e
row_near (seek_by_flag s t absolute e) = seconds_near s t e
row_near (seek_forward s t absolute e) = seconds_near s t e
row_near (set name value) = tt
row_near (cycle name) = tt
row_near (message w ws) = tt
row_near (message_to client w ws) = tt
row_near ignore = tt
row_near quit = tt

pub parsed_near : (ws : List (List ℕ)) (r : Result Command CommandError) → Parses r (parsed ws) → IfOk r IsNear
parsed_near ws (Ok command) e = row_near (subst (Means ws) e (means ws))
parsed_near ws (Err why) e = tt
