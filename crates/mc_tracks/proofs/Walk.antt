-- A walk over the children of a body, one step at a time.
use Rattle.std.proofs.Common.{◌≡◌, ◌≢◌, ℕ, zero, suc, ◌+◌, ◌-◌, ◌<◌, ◌≤◌, List, ◌∷◌, length, Some, None, refl, arith, eq-eqb, inl, inr, false}
use Rattle.std.specs.Prelude.{◌==◌}
use Rattle.std.proofs.lemmas.Bool.Decides.{eqb_tells}
use Rattle.mc_ebml.specs.declared.whole.WholeElement.{WholeElement}
use Rattle.mc_tracks.specs.declared.children.Master.{Master}
use Rattle.mc_tracks.specs.Children.{no_more, and_then, children, children_of, child_at, first}

differs : (a b : ℕ) → a ≢ b → (a == b) ≡ false
differs a b h = elim (eqb_tells a b) [ inl e ↦ absurd (h e.1) | inr e ↦ e.0 ]

-- the child at a place, and those behind it
pub goes_on : (n i place : ℕ) (master : Master) (body : List ℕ) (c : WholeElement) → i < n → place ≢ length body → Some c ≡ child_at master body place
    → children (n - i) master body place ≡ and_then place (Some c) (λ (d : WholeElement). children (n - (i + 1)) master body d.stop)
unfolding children
goes_on n i place master body c lt ne child =
    let k : n - i ≡ suc (n - (i + 1)) = omega arith in rw (k, differs place (length body) ne, ← child) refl

pub breaks : (n i place : ℕ) (master : Master) (body : List ℕ) → i < n → place ≢ length body → None ≡ child_at master body place
    → children (n - i) master body place ≡ and_then place None (λ (d : WholeElement). no_more)
unfolding children
breaks n i place master body lt ne child =
    let k : n - i ≡ suc (n - (i + 1)) = omega arith in rw (k, differs place (length body) ne, ← child) refl

at_end : (k place : ℕ) (master : Master) (body : List ℕ) → place ≡ length body → children k master body place ≡ no_more
unfolding children
at_end zero place master body e = refl
at_end (suc k) place master body e = rw (eq-eqb place (length body) e) refl

pub ends : (n i place : ℕ) (master : Master) (body : List ℕ) → place ≡ length body → children (n - i) master body place ≡ no_more
ends n i place master body e = at_end (n - i) place master body e

pub is_done : (n i place : ℕ) (master : Master) (body : List ℕ) → n ≤ i → children (n - i) master body place ≡ no_more
unfolding children
is_done n i place master body le = let k : n - i ≡ zero = omega arith in rw k refl

pub begins : (master : Master) (body : List ℕ) → children (length body - 0) master body 0 ≡ children_of master body
unfolding children_of
begins master body = let k : length body - 0 ≡ length body = omega arith in rw k refl

pub first_here : (id : ℕ) (c : WholeElement) (cs : List WholeElement) → c.id ≡ id → first id (c ∷ cs) ≡ Some c
first_here id c cs e = rw (eq-eqb c.id id e) refl

pub first_later : (id : ℕ) (c : WholeElement) (cs : List WholeElement) → c.id ≢ id → first id (c ∷ cs) ≡ first id cs
first_later id c cs ne = rw (differs c.id id ne) refl
