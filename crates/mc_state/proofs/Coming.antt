-- Clients that come and go.
use Rattle.std.proofs.Common.{◌≡◌, ℕ, ◌<◌, ◌==◌, inl, inr, Bool, true, not, List, [], ◌∷◌, ◌++◌, length, Option, Some, None, refl, sym, ap, subst, ◌∙◌, arith}
use Rattle.std.specs.Prelude.{IfSome, IsSome, is_some, reverse, filter}
use Rattle.std.specs.List.{find}
use Rattle.std.specs.Option.{option_map}
use Rattle.std.proofs.lemmas.Bool.{cases_Bool, eqb-true, eqb-false}
use Rattle.slab.specs.Slab.{Slab, get, Updates, ContainsKey}
use Rattle.mc_dispatch.specs.Queue.{QueueState, is_of, without, after_removal}
use Rattle.mc_dispatch.specs.declared.request.ClientNo.{ClientNo}
use Rattle.mc_dispatch.specs.declared.request.Request.{Request}
use Rattle.mc_ring.specs.Ring.{IsSize}
use Rattle.mc_props.specs.declared.facts.Facts.{Facts}
use Rattle.mc_props.specs.declared.reading.Reading.{Reading}
use Rattle.mc_client.specs.Client.{ClientState, new_client}
use Rattle.mc_client.specs.Watches.{Fresh}
use Rattle.mc_player.specs.declared.record.CoreRecord.{CoreRecord}
use Rattle.mc_player.specs.declared.record.CoreRecord.TheVariants.{Created, Destroyed}
use Rattle.mc_player.specs.Lives.{Table, Life, life}
use Rattle.mc_player.specs.Facts.{life_of}
use Rattle.mc_player.specs.Journals.{clients, is_name, is_number, name_of, named, unless}
use Rattle.mc_player.proofs.Living.{names}
use Rattle.mc_deeds.specs.Clients.{name_at}
use Rattle.mc_state.specs.Stands.{CoreState, IsQuiet, Readings, Stands, readings_of, table_of}
use Rattle.mc_state.proofs.Steps.{stands_on}

-- ---- names

same_name : (o : Option ClientState) → option_map (λ (l : Life). l.name) (option_map life o) ≡ option_map (λ (k : ClientState). k.name) o
same_name None = refl
same_name (Some k) = refl

pub named_at : (value : ℕ → Facts → Reading) (s : CoreState) (c : ClientNo) → Stands value s → name_at s.clients c ≡ name_of c.0 (reverse s.journal)
named_at value s c st =
    sym (same_name (get s.clients c.0)) ∙ ap (option_map (λ (l : Life). l.name)) (st.clients.lives c.0)
    ∙ names (table_of value s) c.0 (reverse s.journal)

find_same : {X : Type 0} (p q : X → Bool) → ((x : X) → p x ≡ q x) → (xs : List X) → find p xs ≡ find q xs
find_same p q e [] = refl
find_same p q e (x ∷ xs) = rw (e x, find_same p q e xs) refl

pub found_named : (value : ℕ → Facts → Reading) (s : CoreState) (name : List ℕ) → Stands value s
    → find (λ c. is_name name (name_at s.clients c)) s.order ≡ named (reverse s.journal) name
found_named value s name st =
    find_same (λ c. is_name name (name_at s.clients c)) (λ c. is_name name (name_of c.0 (reverse s.journal)))
    (λ c. ap (is_name name) (named_at value s c st)) s.order
    ∙ ap (find (λ (c : ClientNo). is_name name (name_of c.0 (reverse s.journal)))) (ap (λ (x : Readings). x.order) st.tells)

-- ---- one comes

new_fresh : (t : Table) (f : Facts) (name : List ℕ) (size : ℕ) → Fresh t.value t.entries f (new_client name size).watches
new_fresh t f name size = record { placed = λ k d lt. absurd (omega (arith, lt)); sure = λ k d lt. absurd (omega (arith, lt)) }

pub created_next : (value : ℕ → Facts → Reading) (s : CoreState) (by : ℕ) (c : ClientNo) (name : List ℕ) (size : ℕ) (cs : Slab ClientState) (order : List ClientNo) (j : List CoreRecord) (n : ℕ)
    → Stands value s → IsQuiet value s → get s.clients c.0 ≡ None → Updates s.clients cs c.0 (Some (new_client name size))
    → IsSize size → length s.order < 64 → named (reverse s.journal) name ≡ None
    → order ≡ s.order ++ c ∷ [] → j ≡ s.journal ++ Created by c name size ∷ []
    → Stands value (record s { clients = cs; order = order; journal = j; spare = n })
created_next value s by c name size cs order j n st done free changes fits few unnamed os js =
    let t : Table = table_of value s in
    let h : List CoreRecord = reverse s.journal in
    let dead : life_of t c.0 h ≡ None = sym (st.clients.lives c.0) ∙ ap (option_map life) free in
    let listed : s.order ≡ clients h = ap (λ (x : Readings). x.order) st.tells in
    stands_on value s (record s { clients = cs; order = order; journal = j; spare = n }) (Created by c name size) js refl (record {
      allowed = (
        (
          record {
            number = dead;
            unnamed = unnamed;
            fits = fits;
            few = subst (λ (xs : List ClientNo). length xs < 64) listed few;
          },
          done,
        ),
        st.allowed,
      );
      clients = record {
        lives = λ d. elim (cases_Bool (c.0 == d)) [
          | inl y ↦ let e : c.0 ≡ d = eqb-true c.0 d y in
              rw y (ap (option_map life) (subst (λ (x : ℕ). get cs x ≡ Some (new_client name size)) e changes.changed))
          | inr m ↦ rw m (ap (option_map life) (changes.others d (λ e. eqb-false c.0 d m (sym e))) ∙ st.clients.lives d)
        ];
        fresh = λ d. elim (cases_Bool (c.0 == d)) [
          | inl y ↦ let e : c.0 ≡ d = eqb-true c.0 d y in
              let found : get cs d ≡ Some (new_client name size) = subst (λ (x : ℕ). get cs x ≡ Some (new_client name size)) e changes.changed in
              subst (λ (o : Option ClientState). IfSome o (λ x. Fresh t.value t.entries s.facts x.watches)) (sym found) (new_fresh t s.facts name size)
          | inr m ↦ subst (λ (o : Option ClientState). IfSome o (λ x. Fresh t.value t.entries s.facts x.watches)) (sym (changes.others d (λ e. eqb-false c.0 d m (sym e)))) (st.clients.fresh d)
        ];
      };
      tells = ap (λ (xs : List ClientNo). record (readings_of s) { order = xs }) os
          ∙ ap (λ (x : Readings). record x { order = x.order ++ c ∷ [] }) st.tells;
    })

pub updates_at : (cs cs' : Slab ClientState) (a b : ℕ) (k l : ClientState) → Updates cs cs' a (Some k) → a ≡ b → k ≡ l → Updates cs cs' b (Some l)
updates_at cs cs' a b k l u at is = subst (λ (x : ℕ). Updates cs cs' x (Some l)) at (subst (λ (x : ClientState). Updates cs cs' a (Some x)) is u)

-- ---- one goes

alive : (o : Option ClientState) (l : Option Life) → IsSome o → option_map life o ≡ l → is_some l ≡ true
alive o l some e = subst (λ (x : Option Life). is_some x ≡ true) e (mapped o some)
  where
    mapped : (o : Option ClientState) → IsSome o → is_some (option_map life o) ≡ true
    mapped None s = absurd (cc)
    mapped (Some k) s = refl

pub destroyed_next : (value : ℕ → Facts → Reading) (s : CoreState) (by : ℕ) (c : ClientNo) (cs : Slab ClientState) (order : List ClientNo) (q : QueueState) (w : Option Request) (j : List CoreRecord) (n : ℕ)
    → Stands value s → IsQuiet value s → ContainsKey s.clients c.0 → Updates s.clients cs c.0 None
    → order ≡ filter (λ d. not (is_number d c)) s.order → q ≡ after_removal s.queue (is_of c) → w ≡ unless (is_of c) s.work
    → j ≡ s.journal ++ Destroyed by c ∷ []
    → Stands value (record s { clients = cs; order = order; queue = q; work = w; journal = j; spare = n })
destroyed_next value s by c cs order q w j n st done lives changes os qs ws js =
    let t : Table = table_of value s in
    let h : List CoreRecord = reverse s.journal in
    stands_on value s (record s { clients = cs; order = order; queue = q; work = w; journal = j; spare = n }) (Destroyed by c) js refl (record {
      allowed = ((alive (get s.clients c.0) (life_of t c.0 h) lives (st.clients.lives c.0), done), st.allowed);
      clients = record {
        lives = λ d. elim (cases_Bool (c.0 == d)) [
          | inl y ↦ let e : c.0 ≡ d = eqb-true c.0 d y in
              rw y (ap (option_map life) (subst (λ (x : ℕ). get cs x ≡ None) e changes.changed))
          | inr m ↦ rw m (ap (option_map life) (changes.others d (λ e. eqb-false c.0 d m (sym e))) ∙ st.clients.lives d)
        ];
        fresh = λ d. elim (cases_Bool (c.0 == d)) [
          | inl y ↦ let e : c.0 ≡ d = eqb-true c.0 d y in
              let found : get cs d ≡ None = subst (λ (x : ℕ). get cs x ≡ None) e changes.changed in
              subst (λ (o : Option ClientState). IfSome o (λ x. Fresh t.value t.entries s.facts x.watches)) (sym found) tt
          | inr m ↦ subst (λ (o : Option ClientState). IfSome o (λ x. Fresh t.value t.entries s.facts x.watches)) (sym (changes.others d (λ e. eqb-false c.0 d m (sym e)))) (st.clients.fresh d)
        ];
      };
      tells = ap (λ (xs : List ClientNo). record (readings_of s) { order = xs; queued = q.requests; work = w }) os
          ∙ ap (λ (x : QueueState). record (readings_of s) { order = filter (λ d. not (is_number d c)) s.order; queued = x.requests; work = w }) qs
          ∙ ap (λ (x : Option Request). record (readings_of s) { order = filter (λ d. not (is_number d c)) s.order; queued = without (is_of c) s.queue.requests; work = x }) ws
          ∙ ap (λ (x : Readings). record x { order = filter (λ d. not (is_number d c)) x.order; queued = without (is_of c) x.queued; work = unless (is_of c) x.work }) st.tells;
    })
