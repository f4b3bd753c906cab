-- What a poll gives and leaves is what the functions of the observed say.
use Rattle.std.proofs.Common.{◌≡◌, ℕ, zero, suc, ◌+◌, ◌<◌, inl, inr, Bool, true, false, ◌&&◌, List, [], ◌∷◌, ◌++◌, length, map, take, drop, Option, Some, None, Result, Ok, Err, IfOk, refl, sym, ap, subst, ◌∙◌, arith}
use Rattle.std.specs.Prelude.{All, IsTrue, slice_get, slice_index_or}
use Rattle.std.specs.declared.alloc.AllocError.{AllocError}
use Rattle.std.proofs.lemmas.Bool.{and_parts, and_from, cases_Bool}
use Rattle.mc_value.proofs.Same.{exact}
use Rattle.mc_value.specs.Sameness.{same_value}
use Rattle.mc_value.specs.declared.value.Format.{Format}
use Rattle.mc_value.specs.declared.value.Format.TheVariants as formats
use Rattle.mc_ring.specs.Event.{enters_ring}
use Rattle.mc_ring.specs.declared.event.Event.{Event}
use Rattle.mc_ring.specs.declared.event.Event.TheVariants as event
use Rattle.mc_props.specs.Readings.{present_of}
use Rattle.mc_props.specs.declared.facts.Facts.{Facts}
use Rattle.mc_props.specs.declared.entries.PropEntry.{PropEntry}
use Rattle.mc_props.specs.declared.reading.Reading.{Reading}
use Rattle.mc_client.specs.Client.{ClientState}
use Rattle.mc_client.specs.Polls.{Polled, PolledBy, WatchesPolled, WouldPoll, told_at}
use Rattle.mc_client.specs.Seen.{Seen, first_told, first_unsettled, is_settled, news_of, now_of, poll_by, poll_of, same_format, seen_after, seen_by, seen_of, was_given}
use Rattle.mc_client.specs.Watches.{Fresh, IsPlaced, IsSettled, Shown, cleared, present}
use Rattle.mc_client.specs.declared.watch.Watch.{Watch}

-- ---- the test of what was last given is exact

format_true : (a b : Format) → same_format a b ≡ true → a ≡ b
format_true formats.None formats.None e = refl
format_true formats.String formats.String e = refl
format_true formats.Flag formats.Flag e = refl
format_true formats.Int64 formats.Int64 e = refl
format_true formats.Node formats.Node e = refl
format_true _ _ e = absurd (cc)

format_same : (a : Format) → same_format a a ≡ true
format_same formats.None = refl
format_same formats.String = refl
format_same formats.Flag = refl
format_same formats.Int64 = refl
format_same formats.Node = refl

given_true : (o : Option Shown) (s : Shown) → was_given o s ≡ true → o ≡ Some s
given_true None s e = absurd (cc)
given_true (Some (f, v)) (g, w) e =
    let parts = and_parts (same_format f g) (same_value v w) e in
    let one : f ≡ g = format_true f g parts.0 in
    let other : v ≡ w = (exact v w).0 parts.1 in
    cc

given_same : (o : Option Shown) (s : Shown) → o ≡ Some s → was_given o s ≡ true
given_same None s e = absurd (cc)
given_same (Some l) s e =
    let h : l ≡ s = cc in
    rw h (and_from (same_format s.0 s.0) (same_value s.1 s.1) (format_same s.0) ((exact s.1 s.1).1 refl))

-- ---- an observer by its place in the table, and by its name

-- what it has is the same by both
abbrev pub Agrees : (Watch → Shown) → (Seen → Shown) → Watch → Type 0
Agrees present now w = present w ≡ now (seen_of w)

settled : (present : Watch → Shown) (now : Seen → Shown) (w : Watch) → Agrees present now w → IsSettled present w → is_settled now (seen_of w) ≡ true
settled present now w p e = given_same w.given (now (seen_of w)) (e ∙ ap (λ (x : Shown). Some x) p)

unsettled : (present : Watch → Shown) (now : Seen → Shown) (w : Watch) → Agrees present now w → (IsSettled present w → ⊥) → is_settled now (seen_of w) ≡ false
unsettled present now w p news = elim (cases_Bool (is_settled now (seen_of w))) [
  | inl y ↦ absurd (news (given_true w.given (now (seen_of w)) y ∙ ap (λ (x : Shown). Some x) (sym p)))
  | inr n ↦ n
]

tail_all : (P : Watch → Type 0) (x : Watch) (xs : List Watch) → All P (x ∷ xs) → All P xs
tail_all P x xs h = λ k d lt. h (suc k) d (omega arith)

head_all : (P : Watch → Type 0) (x : Watch) (xs : List Watch) → All P (x ∷ xs) → P x
head_all P x xs h = h 0 x (omega arith)

at_all : (P : Watch → Type 0) (ws : List Watch) (place : ℕ) (w : Watch) → All P ws → slice_get ws place ≡ Some w → P w
at_all P [] place w all at = absurd (cc)
at_all P (x ∷ xs) zero w all at = let h : x ≡ w = cc in subst P h (head_all P x xs all)
at_all P (x ∷ xs) (suc n) w all at = at_all P xs n w (tail_all P x xs all) at

-- ---- the first observer with news

found : (present : Watch → Shown) (now : Seen → Shown) (ws : List Watch) (place : ℕ) (w : Watch) → All (Agrees present now) ws
    → slice_get ws place ≡ Some w → All (IsSettled present) (take place ws) → (IsSettled present w → ⊥)
    → first_unsettled now (map seen_of ws) ≡ Some (seen_of w)
found present now [] place w agree at before news = absurd (cc)
found present now (x ∷ xs) zero w agree at before news =
    let h : x ≡ w = cc in
    let p : Agrees present now w = subst (Agrees present now) h (head_all (Agrees present now) x xs agree) in
    rw h (rw (unsettled present now w p news) refl)
found present now (x ∷ xs) (suc k) w agree at before news =
    let p : Agrees present now x = head_all (Agrees present now) x xs agree in
    let s : IsSettled present x = head_all (IsSettled present) x (take k xs) before in
    rw (settled present now x p s)
    (found present now xs k w (tail_all (Agrees present now) x xs agree) at (tail_all (IsSettled present) x (take k xs) before) news)

cleared_seen : (ws : List Watch) → map seen_of (map cleared ws) ≡ map seen_of ws
cleared_seen [] = refl
cleared_seen (w ∷ ws) = ap (λ (xs : List Seen). seen_of w ∷ xs) (cleared_seen ws)

left : (present : Watch → Shown) (now : Seen → Shown) (ws : List Watch) (place : ℕ) (w : Watch) → All (Agrees present now) ws
    → slice_get ws place ≡ Some w → All (IsSettled present) (take place ws) → (IsSettled present w → ⊥)
    → map seen_of (told_at ws place w (present w)) ≡ first_told now (map seen_of ws)
left present now [] place w agree at before news = absurd (cc)
left present now (x ∷ xs) zero w agree at before news =
    let h : x ≡ w = cc in
    let p : Agrees present now w = subst (Agrees present now) h (head_all (Agrees present now) x xs agree) in
    rw h (rw (unsettled present now w p news, p) refl)
left present now (x ∷ xs) (suc k) w agree at before news =
    let p : Agrees present now x = head_all (Agrees present now) x xs agree in
    let s : IsSettled present x = head_all (IsSettled present) x (take k xs) before in
    let n : suc k + 1 ≡ suc (k + 1) = omega arith in
    rw (settled present now x p s, n) (ap (λ (ys : List Seen). seen_of x ∷ ys)
    (left present now xs k w (tail_all (Agrees present now) x xs agree) at (tail_all (IsSettled present) x (take k xs) before) news))

none_found : (present : Watch → Shown) (now : Seen → Shown) (ws : List Watch) → All (Agrees present now) ws → All (IsSettled present) ws
    → first_unsettled now (map seen_of ws) ≡ None
none_found present now [] agree all = refl
none_found present now (x ∷ xs) agree all =
    rw (settled present now x (head_all (Agrees present now) x xs agree) (head_all (IsSettled present) x xs all))
    (none_found present now xs (tail_all (Agrees present now) x xs agree) (tail_all (IsSettled present) x xs all))

-- ---- a poll

-- what is polled, and the observers after it
record IsPoll (now : Seen → Shown) (s : ClientState) (es : List Event) (choked : Bool) (e : Event) (s' : ClientState) : Type 0 where
  answer : e ≡ poll_by now es choked (seen_by s)
  seen : seen_by s' ≡ seen_after now e (seen_by s)

-- an event of the ring is told to no observer
ring_seen : (now : Seen → Shown) (e : Event) (ws : List Seen) → IsTrue (enters_ring e) → seen_after now e ws ≡ ws
ring_seen now event.None ws h = refl
ring_seen now event.Overflow ws h = refl
ring_seen now (event.Change id name format value) ws h = absurd (cc)
ring_seen now event.Shutdown ws h = refl
ring_seen now (event.GetReply id error value) ws h = refl
ring_seen now (event.SetReply id error) ws h = refl
ring_seen now (event.CommandReply id error) ws h = refl
ring_seen now event.StartFile ws h = refl
ring_seen now (event.EndFile reason) ws h = refl
ring_seen now event.FileLoaded ws h = refl
ring_seen now (event.Message words) ws h = refl
ring_seen now event.Seek ws h = refl
ring_seen now event.PlaybackRestart ws h = refl

watches_poll : (present : Watch → Shown) (now : Seen → Shown) (s s' : ClientState) (e : Event) (ws : List Watch) → All (Agrees present now) s.watches
    → WatchesPolled present s.watches e ws → seen_by s' ≡ map seen_of ws → IsPoll now s [] false e s'
watches_poll present now s s' e ws agree (inl told) is =
    let news : first_unsettled now (seen_by s) ≡ Some (seen_of told.watch) =
    found present now s.watches told.place told.watch agree told.first.stands told.first.before told.first.changed in
    let after : map seen_of ws ≡ first_told now (seen_by s) =
    ap (λ (xs : List Watch). map seen_of xs) told.after ∙ left present now s.watches told.place told.watch agree told.first.stands told.first.before told.first.changed in
    let shown : present told.watch ≡ now (seen_of told.watch) = at_all (Agrees present now) s.watches told.place told.watch agree told.first.stands in
    record {
      answer = told.event ∙ ap (λ (x : Shown). event.Change told.watch.id told.watch.name x.0 x.1) shown ∙ ap (news_of now) (sym news);
      seen = is ∙ after ∙ sym (ap (λ (x : Event). seen_after now x (seen_by s)) told.event);
    }
watches_poll present now s s' e ws agree (inr quiet) is = record {
  answer = quiet.event ∙ ap (news_of now) (sym (none_found present now s.watches agree quiet.settled));
  seen = is ∙ (ap (λ (xs : List Watch). map seen_of xs) quiet.after ∙ cleared_seen s.watches) ∙ sym (ap (λ (x : Event). seen_after now x (seen_by s)) quiet.event);
}

poll_cases : (present : Watch → Shown) (now : Seen → Shown) (s s' : ClientState) (e : Event) (es : List Event) (choked : Bool) → All (Agrees present now) s.watches
    → (0 < length es → IsTrue (enters_ring e)) → PolledBy present s es choked e s' → IsPoll now s es choked e s'
poll_cases present now s s' e (x ∷ xs) choked agree kind p =
    record { answer = p.0; seen = ap seen_by p.1 ∙ sym (ring_seen now e (seen_by s) (kind (omega arith))) }
poll_cases present now s s' e [] true agree kind p =
    record { answer = p.0; seen = ap seen_by p.1 ∙ sym (ap (λ (x : Event). seen_after now x (seen_by s)) p.0) }
poll_cases present now s s' e [] false agree kind p = watches_poll present now s s' e p.0 agree p.1 (ap seen_by p.2)

-- by its place in the table an observer has what it has by its name
agrees : (stated : ℕ → Facts → Reading) (entries : List PropEntry) (facts : Facts) (ws : List Watch) → Fresh stated entries facts ws
    → All (Agrees (present stated facts) (now_of stated entries facts)) ws
agrees stated entries facts ws h = λ k d lt. same_by_name (slice_index_or ws k d) (h.placed k d lt)
  where
    same_by_name : (w : Watch) → IsPlaced entries w → Agrees (present stated facts) (now_of stated entries facts) w
    same_by_name w p = ap (λ (o : Option ℕ). present_of stated o w.name w.format facts) p

whole_poll : (stated : ℕ → Facts → Reading) (entries : List PropEntry) (facts : Facts) (s s' : ClientState) (e : Event) → Fresh stated entries facts s.watches
    → (0 < length s.ring.events → IsTrue (enters_ring e)) → Polled (present stated facts) s e s' → IsPoll (now_of stated entries facts) s s.ring.events s.ring.choked e s'
whole_poll stated entries facts s s' e fresh kind p =
    poll_cases (present stated facts) (now_of stated entries facts) s s' e s.ring.events s.ring.choked (agrees stated entries facts s.watches fresh) kind p

pub polled_is : (stated : ℕ → Facts → Reading) (entries : List PropEntry) (facts : Facts) (s s' : ClientState) (r : Result Event AllocError)
    → Fresh stated entries facts s.watches → IfOk r (λ e. Polled (present stated facts) s e s') → IfOk r (λ e. 0 < length s.ring.events → IsTrue (enters_ring e))
    → IfOk r (λ e. e ≡ poll_of (now_of stated entries facts) s)
polled_is stated entries facts s s' (Ok e) fresh p kind = (whole_poll stated entries facts s s' e fresh kind p).answer
polled_is stated entries facts s s' (Err x) fresh p kind = tt

-- an event that would be polled, whatever is left then
answer_cases : (present : Watch → Shown) (now : Seen → Shown) (s s' : ClientState) (e : Event) (es : List Event) (choked : Bool) → All (Agrees present now) s.watches
    → PolledBy present s es choked e s' → e ≡ poll_by now es choked (seen_by s)
answer_cases present now s s' e (x ∷ xs) choked agree p = p.0
answer_cases present now s s' e [] true agree p = p.0
answer_cases present now s s' e [] false agree p = (watches_poll present now s s' e p.0 agree p.1 (ap seen_by p.2)).answer

pub next_is : (stated : ℕ → Facts → Reading) (entries : List PropEntry) (facts : Facts) (s : ClientState) (r : Result Event AllocError)
    → Fresh stated entries facts s.watches → IfOk r (λ e. WouldPoll (present stated facts) s e) → IfOk r (λ e. e ≡ poll_of (now_of stated entries facts) s)
next_is stated entries facts s (Ok e) fresh w =
    answer_cases (present stated facts) (now_of stated entries facts) s w.0 e s.ring.events s.ring.choked (agrees stated entries facts s.watches fresh) w.1
next_is stated entries facts s (Err x) fresh w = tt

pub seen_is : (stated : ℕ → Facts → Reading) (entries : List PropEntry) (facts : Facts) (s s' : ClientState) (r : Result Event AllocError)
    → Fresh stated entries facts s.watches → IfOk r (λ e. Polled (present stated facts) s e s') → IfOk r (λ e. 0 < length s.ring.events → IsTrue (enters_ring e))
    → IfOk r (λ e. seen_by s' ≡ seen_after (now_of stated entries facts) e (seen_by s))
seen_is stated entries facts s s' (Ok e) fresh p kind = (whole_poll stated entries facts s s' e fresh kind p).seen
seen_is stated entries facts s s' (Err x) fresh p kind = tt
