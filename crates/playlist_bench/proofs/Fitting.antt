-- The entries are those of a table.
use Rattle.std.proofs.Common.{◌≡◌, ℕ, zero, suc, List, [], ◌∷◌, map, Some, refl, ap, lit<}
use Rattle.std.specs.List.{slice_get}
use Rattle.mc_props.specs.declared.entries.PropEntry.{PropEntry}
use Rattle.mc_playlist.specs.Table.{AreEntries, Masked}
use Rattle.playlist_bench.specs.Properties.{count_at, entry_of, letters, twenty}

mask_of : (e : PropEntry) (name : List ℕ) → Some (entry_of name) ≡ Some e → e.mask ≡ 1
mask_of e name is = cc

-- an entry of theirs has the field of the names
mask_is : (names : List (List ℕ)) (k : ℕ) (e : PropEntry) → slice_get (map entry_of names) k ≡ Some e → e.mask ≡ 1
mask_is [] k e is = absurd (cc)
mask_is (n ∷ names) zero e is = mask_of e n is
mask_is (n ∷ names) (suc k) e is = mask_is names k e is

-- and shows nothing else
masked : Masked count_at twenty
masked k e is f g agree =
    let names : f.names ≡ g.names = agree.names (rw (mask_is letters k e is) refl) in rw names refl

pub fit : AreEntries count_at twenty
fit = record { few = lit< tt; distinct = refl; masked = masked }
