-- The worked journal is allowed, record by record.
use Rattle.std.proofs.Common.{◌≡◌, Bool, true, false, [], refl, ap, lit<, lit≤}
use Rattle.std.specs.List.{IsDistinct}
use Rattle.std.proofs.lemmas.Bool.{false_from_ne_true, false≢true}
use Rattle.mc_value.proofs.Same.{exact}
use Rattle.mc_value.specs.Sameness.{same_value}
use Rattle.mc_value.specs.declared.value.Value.{Value, out-Value}
use Rattle.mc_value.specs.declared.value.Value.TheVariants as value
use Rattle.mc_value.specs.declared.value.Value.TheOpen.{Value-F}
use Rattle.mc_tracks.specs.TrackList.{HaveDistinctNumbers}
use Rattle.mc_player.specs.Rules.{IsAllowed}
use Rattle.mc_player.specs.Worked.{table, observed, loads, refuses, aborts, pauses, orphans, ends}

-- ---- what does not compute

pub same_flag : (b : Bool) → same_value (value.Flag b) (value.Flag b) ≡ true
same_flag b = (exact (value.Flag b) (value.Flag b)).1 refl

is_on : Value-F Value → Bool
is_on (Value-F.Flag b) = b
is_on _ = false

other_flag : same_value (value.Flag false) (value.Flag true) ≡ false
unfolding out-Value denote.Hole.Carrier.out is_on
other_flag = false_from_ne_true _ (λ e. false≢true (ap (λ (v : Value). is_on (out-Value v)) ((exact (value.Flag false) (value.Flag true)).0 e)))

none_distinct : HaveDistinctNumbers []
unfolding IsDistinct
none_distinct = tt

-- ---- each record

pub observed_allowed : IsAllowed table observed
unfolding out-Value denote.Hole.Carrier.out
observed_allowed = (
  (record { untold = refl; same = let e = same_flag false in rw e refl }, record { due = refl; rest = refl; reply = refl }),
  (
    (record { untold = refl; same = refl }, record { due = refl; rest = refl; reply = refl }),
    (
      (record { untold = refl; same = refl }, record { due = refl; rest = refl; reply = refl }),
      (
        (record { number = refl; unnamed = refl; fits = record { least = lit< tt; most = lit≤ tt }; few = lit< tt }, record { due = refl; rest = refl; reply = refl }),
        tt,
      ),
    ),
  ),
)

pub loads_allowed : IsAllowed table loads
unfolding out-Value denote.Hole.Carrier.out
loads_allowed = (
  (record { next = refl; fate = refl }, tt),
  (
    ((refl, refl), tt),
    (
      (record { next = refl; fate = refl }, tt),
      (
        ((none_distinct, refl), record { due = refl; rest = refl; reply = refl }),
        (
          ((refl, (refl, record { due = refl; rest = refl; reply = refl })), tt),
          (
            ((refl, refl), tt),
            (
              (tt, record { due = refl; rest = refl; reply = refl }),
              observed_allowed,
            ),
          ),
        ),
      ),
    ),
  ),
)

pub refuses_allowed : IsAllowed table refuses
unfolding out-Value denote.Hole.Carrier.out
refuses_allowed = (
  (record { untold = refl; same = refl }, record { due = refl; rest = refl; reply = refl }),
  (
    (record { untold = refl; same = refl }, record { due = refl; rest = refl; reply = refl }),
    (
      (record { untold = refl; same = refl }, record { due = refl; rest = refl; reply = refl }),
      (
        (record { untold = refl; same = refl }, record { due = refl; rest = refl; reply = refl }),
        loads_allowed,
      ),
    ),
  ),
)

pub aborts_allowed : IsAllowed table aborts
unfolding out-Value denote.Hole.Carrier.out
aborts_allowed = (
  (record { untold = refl; same = refl }, record { due = refl; rest = refl; reply = refl }),
  (
    (record { untold = refl; same = refl }, record { due = refl; rest = refl; reply = refl }),
    (
      (record { of_client = refl; of_ticket = refl; same = refl }, tt),
      (
        (record { of_client = refl; of_ticket = refl; same = refl }, tt),
        (
          (record { untold = refl; same = refl }, record { due = refl; rest = refl; reply = refl }),
          (
            (record { new = refl; same = refl }, record { due = refl; rest = refl; reply = refl }),
            (
              (record { new = refl; same = refl }, record { due = refl; rest = refl; reply = refl }),
              refuses_allowed,
            ),
          ),
        ),
      ),
    ),
  ),
)

pub pauses_allowed : IsAllowed table pauses
unfolding out-Value denote.Hole.Carrier.out
pauses_allowed = (
  (record { untold = refl; same = let e = other_flag in rw e refl }, record { due = refl; rest = refl; reply = refl }),
  (
    (record { untold = refl; same = refl }, record { due = refl; rest = refl; reply = refl }),
    (
      (record { untold = refl; same = refl }, record { due = refl; rest = refl; reply = refl }),
      (
        (record { none_out = refl; none_left = refl; reply = record { of_client = refl; of_ticket = refl; same = refl } }, tt),
        (
          ((refl, refl), tt),
          (
            (record { idle = refl; none_out = refl; begun = refl; goes_on = refl; oldest = (refl, refl, refl) }, record { due = refl; rest = refl; reply = refl }),
            (
              (record { next = refl; fate = refl }, tt),
              (
                ((refl, refl), tt),
                (
                  (tt, record { due = refl; rest = refl; reply = refl }),
                  (
                    (record { new = refl; same = refl }, record { due = refl; rest = refl; reply = refl }),
                    aborts_allowed,
                  ),
                ),
              ),
            ),
          ),
        ),
      ),
    ),
  ),
)

pub orphans_allowed : IsAllowed table orphans
unfolding out-Value denote.Hole.Carrier.out
orphans_allowed = (
  (record { untold = refl; same = refl }, record { due = refl; rest = refl; reply = refl }),
  (
    (record { untold = refl; same = refl }, record { due = refl; rest = refl; reply = refl }),
    (
      (record { next = refl; fate = refl }, tt),
      (
        (tt, record { due = refl; rest = refl; reply = refl }),
        (
          (record { number = refl; unnamed = refl; fits = record { least = lit< tt; most = lit≤ tt }; few = lit< tt }, record { due = refl; rest = refl; reply = refl }),
          (
            (refl, record { due = refl; rest = refl; reply = refl }),
            (
              ((refl, refl), tt),
              (
                (record { idle = refl; none_out = refl; begun = refl; goes_on = refl; oldest = (refl, refl, refl) }, record { due = refl; rest = refl; reply = refl }),
                (
                  (record { new = refl; same = refl }, record { due = refl; rest = refl; reply = refl }),
                  pauses_allowed,
                ),
              ),
            ),
          ),
        ),
      ),
    ),
  ),
)

pub ends_allowed : IsAllowed table ends
unfolding out-Value denote.Hole.Carrier.out
ends_allowed = (
  (record { untold = refl; same = refl }, record { due = refl; rest = refl; reply = refl }),
  (
    (record { untold = refl; same = refl }, record { due = refl; rest = refl; reply = refl }),
    (
      (record { untold = refl; same = refl }, record { due = refl; rest = refl; reply = refl }),
      (
        (record { none_out = refl; none_left = refl; reply = record { of_client = refl; of_ticket = refl; same = refl } }, tt),
        (
          (record { next = refl; fate = refl }, tt),
          (
            (record { next = refl; fate = refl }, tt),
            (
              (record { idle = refl; none_out = refl; begun = refl; goes_on = refl; oldest = (refl, refl, refl) }, record { due = refl; rest = refl; reply = refl }),
              (
                (record { new = refl; same = refl }, record { due = refl; rest = refl; reply = refl }),
                orphans_allowed,
              ),
            ),
          ),
        ),
      ),
    ),
  ),
)
