-- A record that may come next, and a core that was changed by it, stand for the journal with it.
use Rattle.std.proofs.Common.{◌≡◌, ◌≢◌, ℕ, ◌+◌, ◌≤◌, ◌==◌, inl, inr, List, [], ◌∷◌, ◌++◌, length, Option, Some, None, refl, sym, ap, subst, ◌∙◌}
use Rattle.std.specs.Prelude.{IfSome, IsSome, IsSomeAnd, if◌then◌else◌, reverse}
use Rattle.std.specs.Option.{option_map}
use Rattle.std.proofs.lemmas.Bool.{cases_Bool, eqb-true, eqb-false}
use Rattle.std.proofs.lemmas.List.{reverse-append, length-reverse}
use Rattle.slab.specs.Slab.{Slab, get, ContainsKey}
use Rattle.mc_dispatch.specs.Queue.{QueueState}
use Rattle.mc_dispatch.specs.declared.call.Call.{Call}
use Rattle.mc_dispatch.specs.declared.request.ClientNo.{ClientNo}
use Rattle.mc_dispatch.specs.declared.request.Request.{Request}
use Rattle.mc_props.specs.declared.entries.PropEntry.{PropEntry}
use Rattle.mc_props.specs.declared.facts.Facts.{Facts}
use Rattle.mc_props.specs.declared.reading.Reading.{Reading}
use Rattle.mc_client.specs.Client.{ClientState}
use Rattle.mc_client.specs.Watches.{Fresh}
use Rattle.mc_player.specs.declared.record.Answer.{Answer}
use Rattle.mc_player.specs.declared.record.CoreRecord.{CoreRecord}
use Rattle.mc_player.specs.declared.record.CoreRecord.TheVariants.{Called}
use Rattle.mc_player.specs.Lives.{Table, Life, life, life_asked, life_called}
use Rattle.mc_player.specs.Journals.{put, request, left_by}
use Rattle.mc_player.specs.Facts.{facts_of, life_after, life_of}
use Rattle.mc_player.specs.Rules.{MayCall}
use Rattle.mc_state.specs.Steps.{Wrote}
use Rattle.mc_state.specs.Stands.{CoreState, HasClients, IsQuiet, Readings, Stands, StandsFor, readings_of, table_of}

-- ---- the journal

pub newest : (j : List CoreRecord) (r : CoreRecord) → r ∷ reverse j ≡ reverse (j ++ r ∷ [])
newest j r = sym (reverse-append j (r ∷ []))

pub as_told : (j j' : List CoreRecord) (r : CoreRecord) → j' ≡ j ++ r ∷ [] → reverse j' ≡ r ∷ reverse j
as_told j j' r e = ap (λ (x : List CoreRecord). reverse x) e ∙ sym (newest j r)

pub length_told : (j : List CoreRecord) → length (reverse j) ≡ length j
length_told j = length-reverse j

-- a core with a record more stands for the journal with it
pub stands_on : (value : ℕ → Facts → Reading) (s s' : CoreState) (r : CoreRecord)
    → s'.journal ≡ s.journal ++ r ∷ [] → s'.entries ≡ s.entries
    → StandsFor (table_of value s) s' (r ∷ reverse s.journal) → Stands value s'
stands_on value s s' r j e st =
    let t : table_of value s ≡ table_of value s' =
    ap (λ (x : List PropEntry). record { value = value; entries = x }) (sym e) in
    subst (λ (x : Table). StandsFor x s' (reverse s'.journal)) t
    (subst (λ (x : List CoreRecord). StandsFor (table_of value s) s' x)
    (sym (as_told s.journal s'.journal r j)) st)

-- ---- clients

-- of the life under a number the core and the journal say the same
pub some_life : (t : Table) (cs : Slab ClientState) (f : Facts) (h : List CoreRecord) (c : ℕ) (k : ClientState)
    → HasClients t cs f h → get cs c ≡ Some k → life_of t c h ≡ Some (life k)
some_life t cs f h c k has at = sym (has.lives c) ∙ ap (option_map life) at

pub fresh_at : (t : Table) (cs : Slab ClientState) (f : Facts) (h : List CoreRecord) (c : ℕ) (k : ClientState)
    → HasClients t cs f h → get cs c ≡ Some k → Fresh t.value t.entries f k.watches
fresh_at t cs f h c k has at =
    subst (λ (o : Option ClientState). IfSome o (λ x. Fresh t.value t.entries f x.watches)) at (has.fresh c)

pub held : (o : Option ClientState) → IsSome o → (k : ClientState) × (o ≡ Some k)
held None h = absurd (cc)
held (Some k) h = (k, refl)

-- one client changed as a record says, and the others were left alone
pub one_changed : (t : Table) (cs cs' : Slab ClientState) (f : Facts) (h : List CoreRecord) (d : ℕ) (k k' : ClientState) (r : CoreRecord) (change : Life → Life)
    → HasClients t cs f h → get cs d ≡ Some k → get cs' d ≡ Some k'
    → ((c : ℕ) → c ≢ d → get cs' c ≡ get cs c)
    → ((c : ℕ) (l : Option Life) → life_after t c r (facts_of t h) l ≡ (if d == c then option_map change l else l))
    → life k' ≡ change (life k) → Fresh t.value t.entries f k'.watches
    → HasClients t cs' f (r ∷ h)
one_changed t cs cs' f h d k k' r change has at at' others says is fresh = record {
  lives = λ c. elim (cases_Bool (d == c)) [
    | inl y ↦
        let e : d ≡ c = eqb-true d c y in
        let found : get cs' c ≡ Some k' = subst (λ (x : ℕ). get cs' x ≡ Some k') e at' in
        let was : life_of t c h ≡ Some (life k) =
        some_life t cs f h c k has (subst (λ (x : ℕ). get cs x ≡ Some k) e at) in
        ap (option_map life) found ∙ ap (λ (l : Life). Some l) is
        ∙ sym (says c (life_of t c h) ∙ rw y (ap (option_map change) was))
    | inr n ↦
        ap (option_map life) (others c (λ e. eqb-false d c n (sym e))) ∙ has.lives c
        ∙ sym (says c (life_of t c h) ∙ rw n refl)
  ];
  fresh = λ c. elim (cases_Bool (d == c)) [
    | inl y ↦
        let e : d ≡ c = eqb-true d c y in
        let found : get cs' c ≡ Some k' = subst (λ (x : ℕ). get cs' x ≡ Some k') e at' in
        subst (λ (o : Option ClientState). IfSome o (λ x. Fresh t.value t.entries f x.watches)) (sym found) fresh
    | inr n ↦
        subst (λ (o : Option ClientState). IfSome o (λ x. Fresh t.value t.entries f x.watches))
        (sym (others c (λ e. eqb-false d c n (sym e)))) (has.fresh c)
  ];
}

-- no client's life changed
pub same_clients : (t : Table) (cs cs' : Slab ClientState) (f : Facts) (h h' : List CoreRecord)
    → HasClients t cs f h → ((c : ℕ) → get cs' c ≡ get cs c) → ((c : ℕ) → life_of t c h' ≡ life_of t c h)
    → HasClients t cs' f h'
same_clients t cs cs' f h h' has same so = record {
  lives = λ c. ap (option_map life) (same c) ∙ has.lives c ∙ sym (so c);
  fresh = λ c. subst (λ (o : Option ClientState). IfSome o (λ x. Fresh t.value t.entries f x.watches))
      (sym (same c)) (has.fresh c);
}

-- all but one keep what they had, and so does that one
pub all_same : (cs cs' : Slab ClientState) (d : ℕ) → get cs' d ≡ get cs d
    → ((c : ℕ) → c ≢ d → get cs' c ≡ get cs c) → (c : ℕ) → get cs' c ≡ get cs c
all_same cs cs' d here others c = elim (cases_Bool (c == d)) [
  | inl y ↦ subst (λ (x : ℕ). get cs' x ≡ get cs x) (sym (eqb-true c d y)) here
  | inr n ↦ others c (eqb-false c d n)
]

-- ---- a call

pub called_next : (value : ℕ → Facts → Reading) (s : CoreState) (by : ℕ) (d : ClientNo) (ticket : Option ℕ) (call : Call) (a : Answer) (k k' : ClientState) (cs : Slab ClientState) (q : QueueState) (j : List CoreRecord) (n : ℕ)
    → Stands value s → IsQuiet value s → get s.clients d.0 ≡ Some k
    → MayCall (table_of value s) (reverse s.journal) d ticket call a (life k)
    → get cs d.0 ≡ Some k' → ((c : ℕ) → c ≢ d.0 → get cs c ≡ get s.clients c)
    → life k' ≡ life_asked ticket (life_called (table_of value s) s.facts call a (life k))
    → Fresh value s.entries s.facts k'.watches
    → q.requests ≡ put (request d ticket call) (left_by d call s.queue.requests)
    → j ≡ s.journal ++ Called by d ticket call a ∷ []
    → Stands value (record s { clients = cs; queue = q; journal = j; spare = n })
called_next value s by d ticket call a k k' cs q j n st done at may at' others is fresh qs js =
    let t : Table = table_of value s in
    let h : List CoreRecord = reverse s.journal in
    let facts : s.facts ≡ facts_of t h = ap (λ (x : Readings). x.facts) st.tells in
    stands_on value s (record s { clients = cs; queue = q; journal = j; spare = n }) (Called by d ticket call a) js refl (record {
      allowed = (
        (
          subst (λ (o : Option Life). IsSomeAnd o (MayCall t h d ticket call a))
              (sym (some_life t s.clients s.facts h d.0 k st.clients at)) may,
          done,
        ),
        st.allowed,
      );
      clients = one_changed t s.clients cs s.facts h d.0 k k' (Called by d ticket call a)
          (λ (x : Life). life_asked ticket (life_called t (facts_of t h) call a x))
          st.clients at at' others (λ c l. refl)
          (is ∙ ap (λ (f : Facts). life_asked ticket (life_called t f call a (life k))) facts) fresh;
      tells = ap (λ (xs : List Request). record (readings_of s) { queued = xs }) qs
          ∙ ap (λ (x : Readings). record x { queued = put (request d ticket call) (left_by d call x.queued) }) st.tells;
    })

-- ---- what a caller says of the core, of the same core with its fields open

pub quiet_in : (value : ℕ → Facts → Reading) (s d : CoreState) → s ≡ d → IsQuiet value d → IsQuiet value s
quiet_in value s d e q = subst (IsQuiet value) (sym e) q

pub lives_in : (s d : CoreState) (c : ℕ) → s ≡ d → ContainsKey d.clients c → ContainsKey s.clients c
lives_in s d c e l = subst (λ (x : CoreState). ContainsKey x.clients c) (sym e) l

-- a record was written behind a journal that was seen whole before
pub wrote_here : (old s : CoreState) (cs : Slab ClientState) (r r' : CoreRecord) (j : List CoreRecord) (n : ℕ)
    → s ≡ old → r ≡ r' → j ≡ s.journal ++ r ∷ [] → s.spare ≤ n + 1
    → Wrote old (record s { clients = cs; journal = j; spare = n }) r'
wrote_here old s cs r r' j n is same js room = record {
  journal = js ∙ ap (λ (x : CoreRecord). s.journal ++ x ∷ []) same
      ∙ ap (λ (x : CoreState). x.journal ++ r' ∷ []) is;
  entries = ap (λ (x : CoreState). x.entries) is;
  room = subst (λ (x : CoreState). x.spare ≤ n + 1) is room;
}
