-- The tracks that wait are selected, and no other range stands beside the current one then.
use Rattle.std.proofs.Common.{◌≡◌, ℕ, Bool, Option, Some, None, List, [], refl, inl, inr}
use Rattle.std.proofs.lemmas.Bool.{cases_Bool}
use Rattle.mc_packet.specs.declared.choice.Choice.{Choice}
use Rattle.mc_packet.specs.Choices.{nothing}
use Rattle.mc_journal.specs.Choices.{kept_of, kept_track}
use Rattle.mc_range.specs.Range.{RangeState}
use Rattle.mc_calls.specs.Demuxers.{AreAwaited, IsSelected}

-- where none waits
pub none_await : (set : Choice) (others : List RangeState) → AreAwaited set nothing others
none_await set others = record { video = tt; audio = tt; sub = tt; alone = λ e. absurd (cc) }

pub same_selected : (o : Option ℕ) → IsSelected o o
same_selected None = tt
same_selected (Some k) = refl

-- where all wait
pub all_await : (set : Choice) → AreAwaited set set []
all_await set = record { video = same_selected set.video; audio = same_selected set.audio; sub = same_selected set.sub; alone = λ e. refl }

kept_selected : (test : ℕ → Bool) (o : Option ℕ) → IsSelected o (kept_track test o)
kept_selected test None = tt
kept_selected test (Some k) = elim (cases_Bool (test k)) [ inl y ↦ rw y refl | inr n ↦ rw n tt ]

-- where those of the set wait that pass
pub kept_await : (set : Choice) (test : ℕ → Bool) → AreAwaited set (kept_of set test) []
kept_await set test = record {
  video = kept_selected test set.video;
  audio = kept_selected test set.audio;
  sub = kept_selected test set.sub;
  alone = λ e. refl;
}

-- where others go
pub less_await : (set waiting : Choice) (others others' : List RangeState) → AreAwaited set waiting others → (others ≡ [] → others' ≡ []) → AreAwaited set waiting others'
less_await set waiting others others' a f = record { video = a.video; audio = a.audio; sub = a.sub; alone = λ e. f (a.alone e) }
