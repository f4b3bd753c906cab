-- The laws of the crates below, by which what is written is read back.
use Rattle.mc_ebml.specs.Laws.{HeadsReadBack, CodedReadBack, IntegersReadBack, TextsReadBack}
use Rattle.mc_block.specs.Written.{PlainBlocksReadBack}
use Rattle.mc_tracks.specs.TrackList.{NumbersAreNew}

pub record Lower : Type 0 where
  pub heads : HeadsReadBack
  pub coded : CodedReadBack
  pub integers : IntegersReadBack
  pub texts : TextsReadBack
  pub blocks : PlainBlocksReadBack
  pub numbers : NumbersAreNew
