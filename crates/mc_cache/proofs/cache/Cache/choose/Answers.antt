use Rattle.std.proofs.Common.{◌≡◌, Some, None, w64, to_z, of_z, sym, ◌∙◌, ap, subst}
use Rattle.std.proofs.lemmas.Int.{to_z-of_z}
use Rattle.std.specs.List.{find}
use Rattle.mc_cache.specs.Cache.{CacheState, IsCache}
use Rattle.mc_cache.specs.Changing.{IsChosen, heads_in, serves}
use Rattle.mc_cache.proofs.Chosen.{stays, never_none, on_some, chosen, unmoved}
use Rattle.mc_cache.proofs.cache.Cache.choose.Goals as goal

pub returns-in-Some-clause-some : goal.returns-in-Some-clause-some
returns-in-Some-clause-some c =
    let st = c.args.self.now in
    let t = to_z w64 (of_z w64 c.args.t) in
    let i = subst (λ x. IsCache x) c.self.view_is c.self.invariant in
    let h : heads_in c.args.set t c.args.dir st.current ≡ Some c.in-Some.heads = ap (λ (x : CacheState). heads_in c.args.set t c.args.dir x.current) (sym c.self.view_is) ∙ sym c.heads_in.ensures ∙ c.in-Some.is in
    subst (λ x. IsChosen c.args.set x c.args.dir st st) (to_z-of_z w64 c.args.t c.ranges.t) (stays c.args.set t c.args.dir c.in-Some.heads st i h).1

pub returns-in_err-range-clause-none : goal.returns-in_err-range-clause-none
returns-in_err-range-clause-none c =
    let st = c.args.self.now in
    let t = to_z w64 (of_z w64 c.args.t) in
    let e = c.take_server.ensures.found in
    unmoved (serves c.args.set t c.args.dir) st c.take_server.new.self c.from_residual.result (sym e ∙ c.in_err-range.was) c.take_server.ensures.left

pub returns-clause-some : goal.returns-clause-some
returns-clause-some c =
    let st = c.args.self.now in
    let t = to_z w64 (of_z w64 c.args.t) in
    let r = c.in_ok-range.range in
    let last = c.put_current.new.self in
    let i = subst (λ x. IsCache x) c.self.view_is c.self.invariant in
    let n : heads_in c.args.set t c.args.dir st.current ≡ None = ap (λ (x : CacheState). heads_in c.args.set t c.args.dir x.current) (sym c.self.view_is) ∙ sym c.heads_in.ensures ∙ c.in_default.is in
    let e : find (serves c.args.set t c.args.dir) st.others ≡ Some r = sym c.take_server.ensures.found ∙ c.in_ok-range.was in
    let x = chosen c.args.set t c.args.dir r st c.take_server.new.self c.leave_current.new.self last i n e c.take_server.ensures.left c.leave_current.ensures.value c.put_current.ensures.value in
    let y = subst (λ z. IsChosen c.args.set z c.args.dir st last) (to_z-of_z w64 c.args.t c.ranges.t) x.1 in
    on_some (IsChosen c.args.set c.args.t c.args.dir st last) c.serves-heads.result y

pub returns-clause-none : goal.returns-clause-none
returns-clause-none c =
    let t = to_z w64 (of_z w64 c.args.t) in
    let r = c.in_ok-range.range in
    let e : find (serves c.args.set t c.args.dir) c.args.self.now.others ≡ Some r = sym c.take_server.ensures.found ∙ c.in_ok-range.was in
    never_none c.args.set t c.args.dir r c.args.self.now.others c.serves-heads.result (c.put_current.new.self ≡ c.args.self.now) e c.serves-heads.ensures
