-- What a player knows before its first file.
use Rattle.std.specs.Prelude.{false, [], None}
use Rattle.mc_packet.specs.Choices.{nothing}
use Rattle.mc_packet.specs.declared.cache.CacheView.{CacheView}
use Rattle.mc_props.specs.declared.facts.Facts.{Facts}

-- the view of a cache that holds nothing
abbrev pub empty_view : CacheView
empty_view = record {
  ranges = [];
  forward = 0;
  back = 0;
  bof = false;
  ending = None;
  time = None;
  playing = false;
  ended = false;
}

-- no path, no tracks and none selected, neither paused nor muted, and no file is loaded
abbrev pub first_facts : Facts
first_facts = record {
  path = None;
  tracks = [];
  set = nothing;
  pause = false;
  mute = false;
  cache = empty_view;
  loaded = false;
}
