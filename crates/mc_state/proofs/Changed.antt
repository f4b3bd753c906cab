-- Facts that change, and records that change nothing of the clients.
use Rattle.std.proofs.Common.{◌≡◌, ℕ, Bool, true, not, ◌&&◌, List, [], ◌∷◌, ◌++◌, Option, Some, None, refl, sym, ap, subst, ◌∙◌}
use Rattle.std.specs.Prelude.{IfSome, is_some, reverse, slice_get}
use Rattle.std.specs.Option.{option_map}
use Rattle.std.specs.List.{list_any}
use Rattle.slab.specs.Slab.{Slab, get}
use Rattle.mc_packet.specs.declared.cache.CacheView.{CacheView}
use Rattle.mc_dispatch.specs.declared.request.ClientNo.{ClientNo}
use Rattle.mc_dispatch.specs.declared.request.Request.{Request}
use Rattle.mc_props.specs.Fields.{AgreeOutside}
use Rattle.mc_props.specs.declared.facts.Facts.{Facts}
use Rattle.mc_props.specs.declared.reading.Reading.{Reading}
use Rattle.mc_client.specs.Client.{ClientState}
use Rattle.mc_client.specs.Watches.{Fresh}
use Rattle.mc_player.specs.declared.deed.Deed.{Deed}
use Rattle.mc_player.specs.declared.deed.Deed.TheVariants as deed
use Rattle.mc_player.specs.declared.record.Order.{Order}
use Rattle.mc_player.specs.declared.record.Outcome.{Outcome}
use Rattle.mc_player.specs.declared.record.Outcome.TheVariants as outcome
use Rattle.mc_player.specs.declared.record.CoreRecord.{CoreRecord}
use Rattle.mc_player.specs.declared.record.CoreRecord.TheVariants.{Learned, Wrote as WroteRecord}
use Rattle.mc_player.specs.Deeds.{after_deed}
use Rattle.mc_player.specs.Effects.{Write}
use Rattle.mc_player.specs.Facts.{after_did, life_of, with_view}
use Rattle.mc_player.specs.Journals.{clients}
use Rattle.mc_player.specs.Laws.{has_number}
use Rattle.mc_player.specs.Lives.{Table, life}
use Rattle.mc_player.specs.Rules.{IsInTurn, May}
use Rattle.mc_player.proofs.Living.{listed}
use Rattle.mc_deeds.specs.Changes.{deed_mask, outcome_mask}
use Rattle.mc_deeds.specs.Flags.{AreFlagged}
use Rattle.mc_state.specs.Pushing.{coming}
use Rattle.mc_state.specs.Stands.{CoreState, HasClients, IsQuiet, Readings, Stands, readings_of, table_of, told_by}
use Rattle.mc_state.proofs.Steps.{same_clients, stands_on}

-- ---- readings, field by field

pub readings_by : (a b : Readings) → a.order ≡ b.order → a.queued ≡ b.queued → a.facts ≡ b.facts → a.work ≡ b.work → a.deed ≡ b.deed
    → a.refused ≡ b.refused → a.out ≡ b.out → a.loading ≡ b.loading → a.restart ≡ b.restart → a.quits ≡ b.quits → a ≡ b
readings_by a b eo eq ef ew ed er eu el es ez =
    ap (λ (x : List ClientNo). record a { order = x }) eo
    ∙ ap (λ (x : List Request). record a { order = b.order; queued = x }) eq
    ∙ ap (λ (x : Facts). record a { order = b.order; queued = b.queued; facts = x }) ef
    ∙ ap (λ (x : Option Request). record a { order = b.order; queued = b.queued; facts = b.facts; work = x }) ew
    ∙ ap (λ (x : Deed). record a { order = b.order; queued = b.queued; facts = b.facts; work = b.work; deed = x }) ed
    ∙ ap (λ (x : Bool). record b { out = a.out; loading = a.loading; restart = a.restart; quits = a.quits; refused = x }) er
    ∙ ap (λ (x : Option Order). record b { loading = a.loading; restart = a.restart; quits = a.quits; out = x }) eu
    ∙ ap (λ (x : Bool). record b { restart = a.restart; quits = a.quits; loading = x }) el
    ∙ ap (λ (x : Bool). record b { quits = a.quits; restart = x }) es
    ∙ ap (λ (x : Bool). record b { quits = x }) ez

-- ---- a record that is no client's

pub same_next : (value : ℕ → Facts → Reading) (s s' : CoreState) (r : CoreRecord)
    → Stands value s → May (table_of value s) (reverse s.journal) r → IsInTurn (table_of value s) (reverse s.journal) r
    → s'.clients ≡ s.clients → s'.facts ≡ s.facts
    → ((c : ℕ) → life_of (table_of value s) c (r ∷ reverse s.journal) ≡ life_of (table_of value s) c (reverse s.journal))
    → readings_of s' ≡ told_by (table_of value s) (r ∷ reverse s.journal)
    → s'.journal ≡ s.journal ++ r ∷ [] → s'.entries ≡ s.entries → Stands value s'
same_next value s s' r st may turn cs fs lives tells js es =
    stands_on value s s' r js es (record {
      allowed = ((may, turn), st.allowed);
      clients = subst (λ (f : Facts). HasClients (table_of value s) s'.clients f (r ∷ reverse s.journal)) (sym fs)
          (same_clients (table_of value s) s.clients s'.clients s.facts (reverse s.journal) (r ∷ reverse s.journal) st.clients
          (λ c. ap (λ (x : Slab ClientState). get x c) cs) lives);
      tells = tells;
    })

-- ---- facts change in a mask's fields, and each client was flagged for it

all_fresh : (t : Table) (cs cs' : Slab ClientState) (f g : Facts) (h h' : List CoreRecord) (mask : ℕ) (order : List ClientNo)
    → HasClients t cs f h → order ≡ clients h → AreFlagged t.value t.entries f mask order cs cs' → AgreeOutside mask f g
    → ((c : ℕ) → life_of t c h' ≡ life_of t c h) → HasClients t cs' g h'
all_fresh t cs cs' f g h h' mask order has os so agree same = record {
  lives = λ c. so.lives c ∙ has.lives c ∙ sym (same c);
  fresh = λ c. at c (get cs' c) refl;
}
  where
    at : (c : ℕ) (o : Option ClientState) → get cs' c ≡ o → IfSome (get cs' c) (λ k. Fresh t.value t.entries g k.watches)
    at c None is = subst (λ (o : Option ClientState). IfSome o (λ k. Fresh t.value t.entries g k.watches)) (sym is) tt
    at c (Some k) is =
        let alive : life_of t c h ≡ Some (life k) = sym (so.lives c ∙ has.lives c) ∙ ap (option_map life) is in
        let there : list_any (has_number c) (clients h) ≡ true = sym (listed t c h) ∙ ap is_some alive in
        so.fresh g agree c (ap (λ (xs : List ClientNo). list_any (has_number c) xs) os ∙ there)

pub changed_next : (value : ℕ → Facts → Reading) (s s' : CoreState) (r : CoreRecord) (mask : ℕ)
    → Stands value s → May (table_of value s) (reverse s.journal) r → IsInTurn (table_of value s) (reverse s.journal) r
    → AreFlagged value s.entries s.facts mask s.order s.clients s'.clients → AgreeOutside mask s.facts s'.facts
    → ((c : ℕ) → life_of (table_of value s) c (r ∷ reverse s.journal) ≡ life_of (table_of value s) c (reverse s.journal))
    → readings_of s' ≡ told_by (table_of value s) (r ∷ reverse s.journal)
    → s'.journal ≡ s.journal ++ r ∷ [] → s'.entries ≡ s.entries → Stands value s'
changed_next value s s' r mask st may turn flagged agree lives tells js es =
    stands_on value s s' r js es (record {
      allowed = ((may, turn), st.allowed);
      clients = all_fresh (table_of value s) s.clients s'.clients s.facts s'.facts (reverse s.journal) (r ∷ reverse s.journal) mask s.order
          st.clients (ap (λ (x : Readings). x.order) st.tells) flagged agree lives;
      tells = tells;
    })

-- ---- which fields change

view_agrees : (f : Facts) (view : CacheView) → AgreeOutside 16 f (with_view f view)
view_agrees f view = record { pause = λ _. refl; mute = λ _. refl; path = λ _. refl; tracks = λ _. refl; loaded = λ _. refl; set = λ _. refl; cache = λ e. absurd (cc) }

nothing_agrees : (f : Facts) → AgreeOutside 0 f f
nothing_agrees f = record { pause = λ _. refl; mute = λ _. refl; path = λ _. refl; tracks = λ _. refl; loaded = λ _. refl; set = λ _. refl; cache = λ _. refl }

pub deed_agrees : (f : Facts) (d : Deed) → AgreeOutside (deed_mask d) f (after_deed d f)
deed_agrees f (deed.Pauses on) = record { pause = λ e. absurd (cc); mute = λ _. refl; path = λ _. refl; tracks = λ _. refl; loaded = λ _. refl; set = λ _. refl; cache = λ _. refl }
deed_agrees f (deed.Mutes on) = record { pause = λ _. refl; mute = λ e. absurd (cc); path = λ _. refl; tracks = λ _. refl; loaded = λ _. refl; set = λ _. refl; cache = λ _. refl }
deed_agrees f d = nothing_agrees f

pub outcome_agrees : (f : Facts) (x : Outcome) → AgreeOutside (outcome_mask x) f (after_did x f)
outcome_agrees f (outcome.Loaded path tracks set) = record { pause = λ _. refl; mute = λ _. refl; path = λ e. absurd (cc); tracks = λ e. absurd (cc); loaded = λ e. absurd (cc); set = λ e. absurd (cc); cache = λ _. refl }
outcome_agrees f (outcome.Selected set) = record { pause = λ _. refl; mute = λ _. refl; path = λ _. refl; tracks = λ _. refl; loaded = λ _. refl; set = λ e. absurd (cc); cache = λ _. refl }
outcome_agrees f x = nothing_agrees f

-- ---- a view is learned, and facts are written

pub learned_next : (value : ℕ → Facts → Reading) (s : CoreState) (by : ℕ) (view : CacheView) (cs : Slab ClientState) (f : Facts) (r : Bool) (j : List CoreRecord) (n : ℕ)
    → Stands value s → IsQuiet value s → AreFlagged value s.entries s.facts 16 s.order s.clients cs
    → f ≡ with_view s.facts view → r ≡ (s.restart && not view.playing) → j ≡ s.journal ++ Learned by view ∷ []
    → Stands value (record s { clients = cs; facts = f; restart = r; journal = j; spare = n })
learned_next value s by view cs f r j n st done flagged fs rs js =
    changed_next value s (record s { clients = cs; facts = f; restart = r; journal = j; spare = n }) (Learned by view) 16 st tt done flagged
    (subst (λ (x : Facts). AgreeOutside 16 s.facts x) (sym fs) (view_agrees s.facts view)) (λ c. refl)
    (ap (λ (x : Facts). record (readings_of s) { facts = x; restart = r }) fs
    ∙ ap (λ (x : Bool). record (readings_of s) { facts = with_view s.facts view; restart = x }) rs
    ∙ ap (λ (x : Readings). record x { facts = with_view x.facts view; restart = x.restart && not view.playing }) st.tells) js refl

pub wrote_next : (value : ℕ → Facts → Reading) (s : CoreState) (by mask : ℕ) (f : Facts) (j : List CoreRecord) (n : ℕ)
    → Stands value s → slice_get (coming value s) 0 ≡ Some (Write mask) → f ≡ s.facts → j ≡ s.journal ++ WroteRecord by mask f ∷ []
    → Stands value (record s { journal = j; spare = n })
wrote_next value s by mask f j n st due fs js =
    same_next value s (record s { journal = j; spare = n }) (WroteRecord by mask f) st
    (due, fs ∙ ap (λ (x : Readings). x.facts) st.tells) tt refl refl (λ c. refl) st.tells js refl
