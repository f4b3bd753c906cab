-- A push to a client stands in the journal where the rule has it.
use Rattle.std.proofs.Common.{◌≡◌, ◌≢◌, ℕ, ◌+◌, inl, inr, Bool, true, false, not, List, [], ◌∷◌, ◌++◌, drop, Option, Some, None, refl, sym, ap, subst, ◌∙◌, arith}
use Rattle.std.specs.Prelude.{IsSomeAnd, reverse, slice_get}
use Rattle.std.specs.Option.{option_map}
use Rattle.std.proofs.lemmas.Bool.{cases_Bool}
use Rattle.std.proofs.lemmas.List.{append-nil}
use Rattle.slab.specs.Slab.{Slab, get}
use Rattle.mc_dispatch.specs.declared.request.ClientNo.{ClientNo}
use Rattle.mc_ring.specs.Ring.{is_full}
use Rattle.mc_ring.specs.declared.event.Event.{Event}
use Rattle.mc_props.specs.declared.entries.PropEntry.{PropEntry}
use Rattle.mc_props.specs.declared.facts.Facts.{Facts}
use Rattle.mc_props.specs.declared.reading.Reading.{Reading}
use Rattle.mc_client.specs.Client.{ClientState, is_off, after_push_of, push_answer_of}
use Rattle.mc_client.specs.Watches.{Fresh}
use Rattle.mc_client.specs.declared.refusal.Pushed.{Pushed as PushAnswer}
use Rattle.mc_client.specs.declared.refusal.Pushed.TheVariants.{Off}
use Rattle.mc_player.specs.declared.record.CoreRecord.{CoreRecord}
use Rattle.mc_player.specs.declared.record.CoreRecord.TheVariants.{Pushed}
use Rattle.mc_player.specs.Effects.{Effect, Push, hears, pushes_to, rest}
use Rattle.mc_player.specs.Facts.{life_of}
use Rattle.mc_player.specs.Lives.{Life, Table, life, life_pushed}
use Rattle.mc_deeds.specs.Clients.{IsPushedAt}
use Rattle.mc_state.specs.Growth.{Adds, is_news, is_push}
use Rattle.mc_state.specs.Pushing.{ComesWith, IsToPush, Within, coming}
use Rattle.mc_deeds.specs.Signals.{fate}
use Rattle.mc_state.specs.Stands.{CoreState, Readings, Stands, table_of}
use Rattle.mc_state.proofs.Growing.{adds_record, news_pushes, adds_as, push_is_news}
use Rattle.mc_state.proofs.Steps.{all_same, as_told, fresh_at, one_changed, same_clients, some_life, stands_on}

-- what a push to it said
pub record PushedHere (cs sl : Slab ClientState) (c : ℕ) (e : Event) (p : PushAnswer) : Type 0 where
  pub here : (k : ClientState) → get cs c ≡ Some k → IsPushedAt k e p (get sl c)
  pub absent : get cs c ≡ None → (p ≡ Off e) × (get sl c ≡ None)
  pub others : (d : ℕ) → d ≢ c → get sl d ≡ get cs d

-- the core stands for its journal, and what is to come is what was behind the push
pub record PushedOn (value : ℕ → Facts → Reading) (e : Event) (c : ClientNo) (s s' : CoreState) : Type 0 where
  pub stands : Stands value s'
  pub ahead : (later : List Effect) → ComesWith value e (c ∷ []) later s → coming value s' ≡ later

heard_by : (k : ClientState) (e : Event) (kept off full : Bool) → is_off k e ≡ off → is_full k.ring ≡ full → fate (push_answer_of k e) ≡ Some kept
    → (off ≡ false) × (kept ≡ not full) × (life (after_push_of k e) ≡ life_pushed kept e (life k)) × ((after_push_of k e).watches ≡ k.watches)
heard_by k e kept true full o f a = absurd (let b : fate (push_answer_of k e) ≡ None = rw o refl in cc)
heard_by k e kept false true o f a =
    let b : fate (push_answer_of k e) ≡ Some false = rw (o, f) refl in
    let s : kept ≡ false = cc in
    (refl, s, rw (o, f, s) refl, rw o refl)
heard_by k e kept false false o f a =
    let b : fate (push_answer_of k e) ≡ Some true = rw (o, f) refl in
    let s : kept ≡ true = cc in
    (refl, s, rw (o, f, s) refl, rw o refl)

off_by : (k : ClientState) (e : Event) (off full : Bool) → is_off k e ≡ off → is_full k.ring ≡ full → fate (push_answer_of k e) ≡ None → (off ≡ true) × (after_push_of k e ≡ k)
off_by k e true full o f a = (refl, rw o refl)
off_by k e false true o f a = absurd (let b : fate (push_answer_of k e) ≡ Some false = rw (o, f) refl in cc)
off_by k e false false o f a = absurd (let b : fate (push_answer_of k e) ≡ Some true = rw (o, f) refl in cc)

one_push : (t : Table) (h : List CoreRecord) (e : Event) (c : ClientNo) (later : List Effect) → hears e (life_of t c.0 h) ≡ true
    → rest t h ≡ pushes_to t e h (c ∷ []) ++ later → rest t h ≡ Push c e ∷ later
one_push t h e c later on due = due ∙ rw on refl

no_push : (t : Table) (h : List CoreRecord) (e : Event) (c : ClientNo) (later : List Effect) → hears e (life_of t c.0 h) ≡ false
    → rest t h ≡ pushes_to t e h (c ∷ []) ++ later → rest t h ≡ later
no_push t h e c later on due = due ∙ rw on refl

pub push_some : (value : ℕ → Facts → Reading) (s : CoreState) (by : ℕ) (c : ClientNo) (e : Event) (kept : Bool) (p : PushAnswer) (sl : Slab ClientState) (j : List CoreRecord) (n : ℕ)
    → Stands value s → IsToPush value e (c ∷ []) s → PushedHere s.clients sl c.0 e p → fate p ≡ Some kept
    → j ≡ s.journal ++ Pushed by c e kept ∷ []
    → PushedOn value e c s (record s { clients = sl; journal = j; spare = n })
push_some value s by c e kept p sl j n st due here told js = by_case (get s.clients c.0) refl
  where
    by_case : (o : Option ClientState) → get s.clients c.0 ≡ o → PushedOn value e c s (record s { clients = sl; journal = j; spare = n })
    by_case None is = absurd (let a : p ≡ Off e = (here.absent is).0 in let b : fate p ≡ None = ap fate a in cc)
    by_case (Some k) is =
        let x = here.here k is in
        let t : Table = table_of value s in
        let h : List CoreRecord = reverse s.journal in
        let b = heard_by k e kept (is_off k e) (is_full k.ring) refl refl (ap fate (sym x.answer) ∙ told) in
        let was : life_of t c.0 h ≡ Some (life k) = some_life t s.clients s.facts h c.0 k st.clients is in
        let on : hears e (life_of t c.0 h) ≡ true = ap (hears e) was ∙ ap not b.0 in
        let next : rest t h ≡ Push c e ∷ due.0 = one_push t h e c due.0 on due.1 in
        let fresh : Fresh value s.entries s.facts k.watches = fresh_at t s.clients s.facts h c.0 k st.clients is in
        let hs : reverse j ≡ Pushed by c e kept ∷ h = as_told s.journal j (Pushed by c e kept) js in
        record {
          stands = stands_on value s (record s { clients = sl; journal = j; spare = n }) (Pushed by c e kept) js refl (record {
            allowed = (
              (
                record {
                  next = ap (λ (es : List Effect). slice_get es 0) next;
                  fate = subst (λ (o : Option Life). IsSomeAnd o (λ l. kept ≡ not (is_full l.ring))) (sym was) b.1;
                },
                tt,
              ),
              st.allowed,
            );
            clients = one_changed t s.clients sl s.facts h c.0 k (after_push_of k e) (Pushed by c e kept) (life_pushed kept e)
                st.clients is x.stands here.others (λ d l. refl) b.2
                (subst (λ ws. Fresh value s.entries s.facts ws) (sym b.3) fresh);
            tells = st.tells;
          });
          ahead = λ later comes.
              ap (λ (y : List CoreRecord). rest t y) hs
              ∙ ap (λ (es : List Effect). drop 1 es) (one_push t h e c later on comes);
        }

pub push_none : (value : ℕ → Facts → Reading) (s : CoreState) (c : ClientNo) (e : Event) (p : PushAnswer) (sl : Slab ClientState)
    → Stands value s → PushedHere s.clients sl c.0 e p → fate p ≡ None
    → PushedOn value e c s (record s { clients = sl })
push_none value s c e p sl st here told = by_case (get s.clients c.0) refl
  where
    so : get sl c.0 ≡ get s.clients c.0 → hears e (life_of (table_of value s) c.0 (reverse s.journal)) ≡ false → PushedOn value e c s (record s { clients = sl })
    so same deaf = record {
      stands = record {
        allowed = st.allowed;
        clients = same_clients (table_of value s) s.clients sl s.facts (reverse s.journal) (reverse s.journal) st.clients
            (all_same s.clients sl c.0 same here.others) (λ d. refl);
        tells = st.tells;
      };
      ahead = λ later comes. no_push (table_of value s) (reverse s.journal) e c later deaf comes;
    }

    by_case : (o : Option ClientState) → get s.clients c.0 ≡ o → PushedOn value e c s (record s { clients = sl })
    by_case None is = so ((here.absent is).1 ∙ sym is) (ap (hears e) (sym (st.clients.lives c.0) ∙ ap (option_map life) is))
    by_case (Some k) is =
        let x = here.here k is in
        let b = off_by k e (is_off k e) (is_full k.ring) refl refl (ap fate (sym x.answer) ∙ told) in
        so (x.stands ∙ ap (λ (y : ClientState). Some y) b.1 ∙ sym is)
        (ap (hears e) (some_life (table_of value s) s.clients s.facts (reverse s.journal) c.0 k st.clients is) ∙ ap not b.0)

-- ---- one client after the other

pub parted : (t : Table) (e : Event) (h : List CoreRecord) (c : ClientNo) (cs : List ClientNo) (later : List Effect)
    → pushes_to t e h (c ∷ cs) ++ later ≡ pushes_to t e h (c ∷ []) ++ (pushes_to t e h cs ++ later)
parted t e h c cs later = elim (cases_Bool (hears e (life_of t c.0 h))) [
  | inl y ↦ rw y refl
  | inr n ↦ rw n refl
]

-- what comes, told of these clients, comes as a push to the first and what is behind it
pub first_comes : (value : ℕ → Facts → Reading) (e : Event) (s : CoreState) (i : ℕ) (c : ClientNo) (later : List Effect)
    → drop i s.order ≡ c ∷ drop (i + 1) s.order → ComesWith value e (drop i s.order) later s
    → ComesWith value e (c ∷ []) (pushes_to (table_of value s) e (reverse s.journal) (drop (i + 1) s.order) ++ later) s
first_comes value e s i c later at comes =
    comes ∙ ap (λ (cs : List ClientNo). pushes_to (table_of value s) e (reverse s.journal) cs ++ later) at
    ∙ parted (table_of value s) e (reverse s.journal) c (drop (i + 1) s.order) later

-- what is to come, told of a journal to which writings and pushes were added since
pub comes_behind : (value : ℕ → Facts → Reading) (e : Event) (by : ℕ) (s s' : CoreState) (cs : List ClientNo) (later : List Effect)
    → coming value s' ≡ pushes_to (table_of value s) e (reverse s.journal) cs ++ later
    → Adds is_news by (reverse s.journal) (reverse s'.journal) → s'.entries ≡ s.entries
    → ComesWith value e cs later s'
comes_behind value e by s s' cs later comes adds es =
    let t : Table = table_of value s in
    let ts : table_of value s ≡ table_of value s' = ap (λ (x : List PropEntry). record { value = value; entries = x }) (sym es) in
    comes ∙ ap (λ (xs : List Effect). xs ++ later)
    (sym (news_pushes t e by (reverse s.journal) (reverse s'.journal) cs adds)
    ∙ ap (λ (x : Table). pushes_to x e (reverse s'.journal) cs) ts)

pub comes_whole : (value : ℕ → Facts → Reading) (e : Event) (s : CoreState) (cs : List ClientNo)
    → coming value s ≡ pushes_to (table_of value s) e (reverse s.journal) cs → ComesWith value e cs [] s
comes_whole value e s cs comes = comes ∙ sym (append-nil (pushes_to (table_of value s) e (reverse s.journal) cs))

pub same_order : (n : ℕ) (s s' : CoreState) → Within n s s' → s'.order ≡ s.order
same_order n s s' w = ap (λ (x : Readings). x.order) w.same

pub within_more : (n : ℕ) (a b c : CoreState) → Within n a b → Within 1 b c → Within (n + 1) a c
within_more n a b c x y = record {
  entries = y.entries ∙ x.entries;
  same = y.same ∙ x.same;
  room = let p = x.room in let q = y.room in omega arith;
}

-- ---- the record of a push, or none

noted_some : (f : Bool → CoreRecord) (o : Option Bool) (r : CoreRecord) → Some r ≡ option_map f o → (kept : Bool) × (o ≡ Some kept) × (r ≡ f kept)
noted_some f None r e = absurd (cc)
noted_some f (Some kept) r e = (kept, refl, (let x : r ≡ f kept = cc in x))

noted_none : (f : Bool → CoreRecord) (o : Option Bool) → None ≡ option_map f o → o ≡ None
noted_none f None e = refl
noted_none f (Some kept) e = absurd (cc)

pub push_noted : (value : ℕ → Facts → Reading) (d s : CoreState) (by : ℕ) (c : ClientNo) (e told : Event) (r : CoreRecord) (p : PushAnswer) (sl : Slab ClientState) (j : List CoreRecord) (n : ℕ)
    → s ≡ d → Stands value s → IsToPush value e (c ∷ []) d → PushedHere s.clients sl c.0 e p → told ≡ e
    → Some r ≡ option_map (Pushed by c told) (fate p) → j ≡ s.journal ++ r ∷ []
    → PushedOn value e c d (record s { clients = sl; journal = j; spare = n })
    × Adds is_push by (reverse d.journal) (reverse j)
push_noted value d s by c e told r p sl j n same st due here is some js =
    let x = noted_some (Pushed by c told) (fate p) r some in
    let rs : r ≡ Pushed by c e x.0 = x.2 ∙ ap (λ (y : Event). Pushed by c y x.0) is in
    let js' : j ≡ s.journal ++ Pushed by c e x.0 ∷ [] = js ∙ ap (λ (y : CoreRecord). s.journal ++ y ∷ []) rs in
    let due' : IsToPush value e (c ∷ []) s = subst (IsToPush value e (c ∷ [])) (sym same) due in
    let made : PushedOn value e c s (record s { clients = sl; journal = j; spare = n }) =
    push_some value s by c e x.0 p sl j n st due' here x.1 js' in (
      record {
        stands = made.stands;
        ahead = λ later comes. made.ahead later (subst (ComesWith value e (c ∷ []) later) (sym same) comes);
      },
      subst (λ (y : CoreState). Adds is_push by (reverse y.journal) (reverse j)) same
          (adds_record is_push by s.journal j (Pushed by c e x.0) js' refl refl),
    )

pub push_silent : (value : ℕ → Facts → Reading) (d s : CoreState) (by : ℕ) (c : ClientNo) (e told : Event) (p : PushAnswer) (sl : Slab ClientState)
    → s ≡ d → Stands value s → PushedHere s.clients sl c.0 e p → None ≡ option_map (Pushed by c told) (fate p)
    → PushedOn value e c d (record s { clients = sl })
push_silent value d s by c e told p sl same st here none =
    let made : PushedOn value e c s (record s { clients = sl }) =
    push_none value s c e p sl st here (noted_none (Pushed by c told) (fate p) none) in
    record {
      stands = made.stands;
      ahead = λ later comes. made.ahead later (subst (ComesWith value e (c ∷ []) later) (sym same) comes);
    }

-- ---- a loop over clients

pub comes_more : (value : ℕ → Facts → Reading) (e x : Event) (by : ℕ) (s s' : CoreState) (i : ℕ) (c : ClientNo) (later : List Effect)
    → x ≡ e → drop i s.order ≡ c ∷ drop (i + 1) s.order
    → ((l : List Effect) → ComesWith value x (c ∷ []) l s → coming value s' ≡ l)
    → Adds is_push by (reverse s.journal) (reverse s'.journal) → Within 1 s s'
    → ComesWith value e (drop i s.order) later s → ComesWith value e (drop (i + 1) s'.order) later s'
comes_more value e x by s s' i c later is at ahead adds w comes =
    let l : List Effect = pushes_to (table_of value s) e (reverse s.journal) (drop (i + 1) s.order) ++ later in
    let first : ComesWith value x (c ∷ []) l s =
    subst (λ (y : Event). ComesWith value y (c ∷ []) l s) (sym is) (first_comes value e s i c later at comes) in
    subst (λ (cs : List ClientNo). ComesWith value e (drop (i + 1) cs) later s') (sym (same_order 1 s s' w))
    (comes_behind value e by s s' (drop (i + 1) s.order) later (ahead l first)
    (adds_as is_push is_news by (reverse s.journal) (reverse s'.journal) push_is_news adds) w.entries)
