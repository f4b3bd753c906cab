-- Generated films of few pictures, worked out by hand.
use Rattle.std.specs.Prelude.{pos}
use Rattle.mc_gen.specs.declared.summary.Sums.{Sums}

-- without a picture there is nothing
abbrev pub none_summed : Sums
none_summed = record { packets = 0; octets = 0; last = pos 0 }

-- one of 8 octets, and two sounds of 4
abbrev pub one_summed : Sums
one_summed = record { packets = 3; octets = 16; last = pos 20000000 }

-- twelve of 8 to 19 octets, 162 together, and 24 sounds, the last of them 20 milliseconds behind the picture at 440
abbrev pub twelve_summed : Sums
twelve_summed = record { packets = 36; octets = 258; last = pos 460000000 }
