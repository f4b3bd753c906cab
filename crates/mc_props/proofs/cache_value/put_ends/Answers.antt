use Rattle.std.proofs.Common.{◌≡◌, ◌∙◌, ℕ, List, [], ◌∷◌, ◌++◌, ap, append_assoc, codes}
use Rattle.std.proofs.lemmas.Result.{on_ok_weaker}
use Rattle.std.specs.Option.{is_some}
use Rattle.mc_value.specs.declared.value.Value.{Value}
use Rattle.mc_value.specs.declared.value.Value.TheVariants as value
use Rattle.mc_props.proofs.cache_value.put_ends.Goals as goal

abbrev Pair : Type 0
Pair = List ℕ × Value

two : (old mid new : List Pair) (a b : Pair) → mid ≡ old ++ a ∷ [] → new ≡ mid ++ b ∷ [] → new ≡ old ++ a ∷ b ∷ []
two old mid new a b first second = second ∙ ap (λ (m : List Pair). m ++ b ∷ []) first ∙ append_assoc old (a ∷ []) (b ∷ [])

pub returns : goal.returns
returns c =
    let bof : Pair = (codes "bof-cached", value.Flag c.args.view.now.bof) in
    let eof : Pair = (codes "eof-cached", value.Flag c.has_ending.result) in
    let is : c.args.pairs.now ++ bof ∷ eof ∷ [] ≡ c.args.pairs.now ++ bof ∷ (codes "eof-cached", value.Flag (is_some c.args.view.now.ending)) ∷ [] =
    ap (λ b. c.args.pairs.now ++ bof ∷ (codes "eof-cached", value.Flag b) ∷ []) c.has_ending.ensures in
    on_ok_weaker c.put_flag-2.result
    (λ h. two c.args.pairs.now c.put_flag.new.pairs c.put_flag-2.new.pairs bof eof c.in_ok-put_flag.ensures h ∙ is)
    c.put_flag-2.ensures
