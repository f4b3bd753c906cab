use Rattle.std.proofs.Common.{◌≡◌, rules, arith}
use Rattle.mc_gen.specs.Made.{made_body}
use Rattle.mc_gen.proofs.Made.{made_short, video_short, audio_short}
use Rattle.mc_gen.proofs.front.push_front.Goals as goal

pub push_entry-requires-clause-small : goal.push_entry-requires-clause-small
push_entry-requires-clause-small c = video_short

pub push_entry-requires-2-clause-small : goal.push_entry-requires-2-clause-small
push_entry-requires-2-clause-small c = audio_short

pub write_front_with-requires : goal.write_front_with-requires
write_front_with-requires c =
    let is : c.as_slice.result.now ≡ made_body = search rules in
    rw is (let few = made_short in omega arith)
