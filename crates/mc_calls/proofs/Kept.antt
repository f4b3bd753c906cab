-- What stays when other tracks are selected: the queues of tracks that stay, with their heads; the others wait.
use Rattle.std.proofs.Common.{◌≡◌, ℕ, Bool, true, false, ◌&&◌, ◌||◌, ◌==◌, not, Option, Some, None, refl, ap, sym, subst, ◌∙◌, inl, inr}
use Rattle.std.specs.Prelude.{if◌then◌else◌, is_some, IfSome}
use Rattle.std.specs.Option.{option_map}
use Rattle.std.proofs.lemmas.Bool.{cases_Bool, eqb-true, eq-eqb, and_parts}
use Rattle.mc_packet.specs.declared.packet.Pos.{Pos}
use Rattle.mc_packet.specs.declared.choice.Choice.{Choice}
use Rattle.mc_packet.specs.declared.cache.Heads.{Heads}
use Rattle.mc_packet.specs.Choices.{is_track, has, is_empty, is_other, nothing}
use Rattle.mc_journal.specs.Choices.{kept_of, kept_track}
use Rattle.mc_journal.specs.Ranges.{Range}
use Rattle.mc_queue.specs.Queue.{QueueState}
use Rattle.mc_range.specs.Range.{RangeState, IsRange, queue_of, span_of}
use Rattle.mc_range.specs.Filmed.{same_kinds}
use Rattle.mc_range.specs.Tracks.{retracked}
use Rattle.mc_range.proofs.Retracked.{kept_ranges}
use Rattle.mc_calls.specs.declared.waiting.Target.{Target}
use Rattle.mc_calls.specs.State.{DemuxState, head_of}
use Rattle.mc_calls.specs.Demuxers.{AreQueued, HaveHeads, IsPlaced}
use Rattle.mc_calls.specs.Selecting.{added_to, waiting_after}
use Rattle.mc_calls.proofs.ByKind.{own_other}
use Rattle.mc_calls.proofs.Jobs.{empty_is}

-- ---- tracks of a choice that pass

kept_at : (test : ℕ → Bool) (o : Option ℕ) (k : ℕ) → is_track (kept_track test o) k ≡ (is_track o k && test k)
kept_at test None k = refl
kept_at test (Some j) k = kept_if (test j) refl
  where
    kept_if : (b : Bool) → test j ≡ b → is_track (if b then Some j else None) k ≡ ((j == k) && test k)
    kept_if true is = elim (cases_Bool (j == k)) [
      | inl y ↦ let e : test k ≡ true = subst (λ i. test i ≡ true) (eqb-true j k y) is in rw (y, e) refl
      | inr n ↦ rw n refl
    ]
    kept_if false is = elim (cases_Bool (j == k)) [
      | inl y ↦ let e : test k ≡ false = subst (λ i. test i ≡ false) (eqb-true j k y) is in rw (y, e) refl
      | inr n ↦ rw n refl
    ]

three : (a b c w : Bool) → ((a && w) || ((b && w) || (c && w))) ≡ ((a || (b || c)) && w)
three true b c true = refl
three false true c true = refl
three false false true true = refl
three false false false true = refl
three true true true false = refl
three true true false false = refl
three true false true false = refl
three true false false false = refl
three false true true false = refl
three false true false false = refl
three false false true false = refl
three false false false false = refl

pub has_kept : (set : Choice) (test : ℕ → Bool) (k : ℕ) → has (kept_of set test) k ≡ (has set k && test k)
has_kept set test k =
    rw (kept_at test set.video k, kept_at test set.audio k, kept_at test set.sub k) (three (is_track set.video k) (is_track set.audio k) (is_track set.sub k) (test k))

all_kept : (test : ℕ → Bool) (o : Option ℕ) → ((k : ℕ) → test k ≡ true) → kept_track test o ≡ o
all_kept test None h = refl
all_kept test (Some k) h = let e = h k in rw e refl

pub kept_all : (set : Choice) (test : ℕ → Bool) → ((k : ℕ) → test k ≡ true) → kept_of set test ≡ set
kept_all set test h =
    let v = all_kept test set.video h in
    let a = all_kept test set.audio h in
    let s = all_kept test set.sub h in
    ap (λ (x : Option ℕ). let c : Choice = record { video = x; audio = kept_track test set.audio; sub = kept_track test set.sub } in c) v
    ∙ ap (λ (x : Option ℕ). let c : Choice = record { video = set.video; audio = x; sub = kept_track test set.sub } in c) a
    ∙ ap (λ (x : Option ℕ). let c : Choice = record { video = set.video; audio = set.audio; sub = x } in c) s

-- ---- queues that stay

-- a track without a place in the set has no queue
or_false : (a b : Bool) → (a || b) ≡ false → (a ≡ false) × (b ≡ false)
or_false true b e = absurd (cc)
or_false false b e = (refl, e)

pub no_queue : (r : RangeState) (k : ℕ) → IsRange r → has r.set k ≡ false → queue_of k r.queues ≡ None
no_queue r k i e =
    let one = or_false (is_track r.set.video k) (is_track r.set.audio k || is_track r.set.sub k) e in
    let two = or_false (is_track r.set.audio k) (is_track r.set.sub k) one.1 in
    let v = own_other r.set.video r.mark r.queues.video k i.held.video one.0 in
    let a = own_other r.set.audio r.mark r.queues.audio k i.held.audio two.0 in
    let s = own_other r.set.sub r.mark r.queues.sub k i.held.sub two.1 in
    rw (v, a, s) refl

pub owned_queue : (r : RangeState) (k : ℕ) → IsRange r → is_some (queue_of k r.queues) ≡ true → has r.set k ≡ true
owned_queue r k i e = elim (cases_Bool (has r.set k)) [
  | inl y ↦ y
  | inr n ↦ absurd (let f = no_queue r k i n in let g : false ≡ true = rw f at e in cc)
]

map_some : {A B : Type 0} (f : A → B) (o : Option A) → is_some (option_map f o) ≡ is_some o
map_some f None = refl
map_some f (Some x) = refl

some_if : {A B : Type 0} (f : A → B) (b : Bool) (o : Option A) → is_some (if b then option_map f o else None) ≡ (b && is_some o)
some_if f true o = map_some f o
some_if f false o = refl

pub stays : (set : Choice) (r : RangeState) (k : ℕ) → IsRange r → same_kinds r.set set ≡ true
    → is_some (queue_of k (retracked set r).queues) ≡ (has set k && is_some (queue_of k r.queues))
stays set r k i e =
    sym (map_some span_of (queue_of k (retracked set r).queues))
    ∙ ap (λ (x : Range). is_some (x.spans k)) (kept_ranges set r i e)
    ∙ some_if span_of (has set k) (queue_of k r.queues)

-- ---- heads that stay

is_off : (o p : Option ℕ) (k : ℕ) → is_other o p ≡ true → is_track o k ≡ true → is_track p k ≡ false
is_off None p k h e = absurd (cc)
is_off (Some m) None k h e = refl
is_off (Some m) (Some n) k h e = elim (cases_Bool (n == k)) [
  | inl y ↦ absurd (let f : m ≡ k = eqb-true m k e in let g : n ≡ k = eqb-true n k y in let same : (m == n) ≡ true = eq-eqb m n (f ∙ sym g) in let bad : false ≡ true = rw same at h in cc)
  | inr z ↦ z
]

-- a track of both sets has one kind in them
pub same_head : (a b : Choice) (heads : Heads) (k : ℕ) → same_kinds a b ≡ true → has a k ≡ true → has b k ≡ true → head_of b heads k ≡ head_of a heads k
same_head a b heads k e x y =
    let p = and_parts (is_other a.video b.audio && is_other a.video b.sub) ((is_other a.audio b.video && is_other a.audio b.sub) && (is_other a.sub b.video && is_other a.sub b.audio)) e in
    let v = and_parts (is_other a.video b.audio) (is_other a.video b.sub) p.0 in
    let q = and_parts (is_other a.audio b.video && is_other a.audio b.sub) (is_other a.sub b.video && is_other a.sub b.audio) p.1 in
    let u = and_parts (is_other a.audio b.video) (is_other a.audio b.sub) q.0 in
    let s = and_parts (is_other a.sub b.video) (is_other a.sub b.audio) q.1 in
    elim (cases_Bool (is_track a.video k)) [
      | inl av ↦
          let n1 = is_off a.video b.audio k v.0 av in
          let n2 = is_off a.video b.sub k v.1 av in
          elim (cases_Bool (is_track b.video k)) [
            | inl bv ↦ rw (av, bv) refl
            | inr nbv ↦ absurd (let f : false ≡ true = rw (nbv, n1, n2) at y in cc)
          ]
      | inr nav ↦ elim (cases_Bool (is_track a.audio k)) [
        | inl aa ↦
            let n1 = is_off a.audio b.video k u.0 aa in
            let n2 = is_off a.audio b.sub k u.1 aa in
            elim (cases_Bool (is_track b.audio k)) [
              | inl ba ↦ rw (nav, aa, n1, ba) refl
              | inr nba ↦ absurd (let f : false ≡ true = rw (n1, nba, n2) at y in cc)
            ]
        | inr naa ↦
            let asub : is_track a.sub k ≡ true = rw (nav, naa) at x in
            let n1 = is_off a.sub b.video k s.0 asub in
            let n2 = is_off a.sub b.audio k s.1 asub in
            let bs : is_track b.sub k ≡ true = rw (n1, n2) at y in
            rw (nav, naa, asub, n1, n2, bs) refl
      ]
    ]

-- ---- what waits

added_yes : (a b w : Bool) → a ≡ (true && (not b || w)) → a ≡ false → (b ≡ true) × (w ≡ false)
added_yes a true w e h = (refl, sym e ∙ h)
added_yes a false w e h = absurd (cc)

added_no : (s b w : Bool) → (s && (not b || w)) ≡ true → b ≡ true → w ≡ true
added_no true true w e h = e
added_no false b w e h = absurd (cc)
added_no true false w e h = absurd (cc)

pub both_true : (a b : Bool) → (a && b) ≡ true → (a ≡ true) × (b ≡ true)
both_true a b e = let p = and_parts a b e in (p.0, p.1)

kept_placed : (old : DemuxState) (set : Choice) (r : RangeState) → IsRange r → r.set ≡ old.set → same_kinds old.set set ≡ true
    → AreQueued old.set old.waiting r → HaveHeads old.set old.heads r
    → AreQueued set (added_to set old) (retracked set r) × HaveHeads set old.heads (retracked set r)
kept_placed old set r i own e queued have = (
  record {
    blank = λ k w.
        let h : (has set k && (not (has old.set k) || has old.waiting k)) ≡ true = sym (has_kept set (λ t. not (has old.set t) || has old.waiting t) k) ∙ w in
        let none : is_some (queue_of k r.queues) ≡ false = elim (cases_Bool (has old.set k)) [
          | inl y ↦ queued.blank k (added_no (has set k) (has old.set k) (has old.waiting k) h y)
          | inr n ↦ ap (λ (o : Option QueueState). is_some o) (no_queue r k i (subst (λ (s : Choice). has s k ≡ false) (sym own) n))
        ] in
        stays set r k i same ∙ ap (λ b. has set k && b) none ∙ and_off (has set k);
    queued = λ k s w.
        let h : has (added_to set old) k ≡ (true && (not (has old.set k) || has old.waiting k)) =
        has_kept set (λ t. not (has old.set t) || has old.waiting t) k ∙ ap (λ b. b && (not (has old.set k) || has old.waiting k)) s in
        let y = added_yes (has (added_to set old) k) (has old.set k) (has old.waiting k) h w in
        stays set r k i same ∙ ap (λ b. b && is_some (queue_of k r.queues)) s ∙ queued.queued k y.0 y.1;
  },
  λ k q.
      let both = both_true (has set k) (is_some (queue_of k r.queues)) (sym (stays set r k i same) ∙ q) in
      let was : has old.set k ≡ true = subst (λ (s : Choice). has s k ≡ true) own (owned_queue r k i both.1) in
      ap (λ (o : Option Pos). is_some o) (same_head old.set set old.heads k e was both.0) ∙ have k both.1,
)
  where
    same : same_kinds r.set set ≡ true
    same = subst (λ (s : Choice). same_kinds s set ≡ true) (sym own) e

    and_off : (b : Bool) → (b && false) ≡ false
    and_off true = refl
    and_off false = refl

if_none : (b : Bool) (f : RangeState → RangeState) → (if b then None else option_map f None) ≡ None
if_none true f = refl
if_none false f = refl

or_right : (a b : Bool) → b ≡ true → (a || b) ≡ true
or_right true b e = refl
or_right false b e = e

not_or : (b : Bool) → (not b || b) ≡ true
not_or true = refl
not_or false = refl

all_wait : (old : DemuxState) (set : Choice) → old.waiting ≡ old.set → added_to set old ≡ set
all_wait old set e = kept_all set (λ t. not (has old.set t) || has old.waiting t)
    (λ k. ap (λ (w : Choice). not (has old.set k) || has w k) e ∙ not_or (has old.set k))

by_range : (old : DemuxState) (set : Choice) (o : Option RangeState) → IfSome o IsRange → IfSome o (λ r. r.set ≡ old.set) → same_kinds old.set set ≡ true
    → IsPlaced old.set old.heads old.waiting None o
    → IsPlaced set old.heads (added_to set old) None (if is_empty set then None else option_map (retracked set) o)
by_range old set None i own e p =
    subst (λ (x : Option RangeState). IsPlaced set old.heads (added_to set old) None x) (sym (if_none (is_empty set) (retracked set))) (all_wait old set p)
by_range old set (Some r) i own e p = elim (cases_Bool (is_empty set)) [
  | inl y ↦
      let blank : set ≡ nothing = empty_is set y in
      rw y (subst (λ (s : Choice). added_to s old ≡ s) (sym blank) refl)
  | inr n ↦ rw n (kept_placed old set r i own e p.0 p.1)
]

pub still_placed : (old : DemuxState) (set : Choice) (o : Option Target) (c : Option RangeState) → IfSome c IsRange → IfSome c (λ r. r.set ≡ old.set) → same_kinds old.set set ≡ true
    → IsPlaced old.set old.heads old.waiting o c
    → IsPlaced set old.heads (waiting_after o (added_to set old)) o (if is_empty set then None else option_map (retracked set) c)
still_placed old set (Some s) None i own e p = (if_none (is_empty set) (retracked set), refl)
still_placed old set (Some s) (Some r) i own e p = absurd (let f = p.0 in cc)
still_placed old set None c i own e p = by_range old set c i own e p
