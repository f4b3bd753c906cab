-- What a text in memory holds.
use Rattle.std.specs.Prelude.{List, ℕ}
use Rattle.mc_outside.specs.declared.texts.MemSink.{MemSink}

-- the octets that were written
abbrev pub text_of : MemSink → List ℕ
text_of s = s.clean

-- the numbers of the calls that fail
abbrev pub bad_of : MemSink → List ℕ
bad_of s = s.bad

-- how many calls there were, as far as the counter goes
abbrev pub calls_of : MemSink → ℕ
calls_of s = s.calls

-- how many calls failed, as far as the counter goes
abbrev pub faults_of : MemSink → ℕ
faults_of s = s.faults
