-- A cache whose ranges hold a film's list.
use Rattle.std.specs.Prelude.{◌≡◌, ℕ, zero, suc, true, List, [], map, Option, Some, IfSome, ℤ, ⊤}
use Rattle.std.specs.List.{AllByRecursion}
use Rattle.mc_packet.specs.declared.choice.Choice.{Choice}
use Rattle.mc_journal.specs.declared.record.Removal.{Removal}
use Rattle.mc_packet.specs.declared.packet.Packet.{Packet}
use Rattle.mc_packet.specs.declared.choice.Dir.{Dir}
use Rattle.mc_journal.specs.Ranges.{Range, serves}
use Rattle.mc_journal.specs.Stands.{Stand, first_that, joined, ranges_of as stand_ranges}
use Rattle.mc_journal.specs.Allowed.{touched}
use Rattle.mc_range.specs.Range.{RangeState, as_range}
use Rattle.mc_range.specs.Serving.{HoldsFilm}
use Rattle.mc_cache.specs.Cache.{CacheState, stand_of}

-- a range of the set, which holds exactly the film's packets of each track in its span
pub record HoldsIn (ps : List Packet) (set : Choice) (r : RangeState) : Type 0 where
  pub film : HoldsFilm ps r
  pub set_is : r.set ≡ set

-- all ranges of the cache are such
pub record HoldsAll (ps : List Packet) (set : Choice) (st : CacheState) : Type 0 where
  pub current : IfSome st.current (HoldsIn ps set)
  pub others : AllByRecursion (HoldsIn ps set) st.others

-- ---- seeks

-- the first range of the definitions that serves a seek
abbrev pub server_in : List Packet → Choice → Dir → ℤ → CacheState → Option Range
server_in ps set dir t st = first_that (serves ps set dir t) (stand_ranges (stand_of st))

-- ---- joins

-- the ranges of the definitions, where this one is current
abbrev pub stand_with : RangeState → List RangeState → Stand
stand_with r rs = record { current = Some (as_range r); others = map as_range rs }

-- after so many joins
abbrev pub joined_times : ℕ → Choice → Stand → Stand
joined_times zero set st = st
joined_times (suc n) set st = joined set (joined_times n set st)

-- before each of them another range touches the current one
abbrev pub AreTouched : ℕ → Choice → Stand → Type 0
AreTouched zero set st = ⊤
AreTouched (suc n) set st = AreTouched n set st × (touched set (joined_times n set st).others (joined_times n set st).current ≡ true)

-- joins of ranges of one film: none differ, and the ranges are those that as many joins leave, each where one touches
pub record JoinsFilm (ps : List Packet) (set : Choice) (first : RangeState) (beside : List RangeState) (r : RangeState) (rs : List RangeState) (n : ℕ) (drops : List Removal) : Type 0 where
  pub none_told : drops ≡ []
  pub stand : joined_times n set (stand_with first beside) ≡ stand_with r rs
  pub touching : AreTouched n set (stand_with first beside)
  pub film : HoldsIn ps set r
  pub others : AllByRecursion (HoldsIn ps set) rs
