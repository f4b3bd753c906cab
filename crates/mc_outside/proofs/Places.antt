-- Opening a file by its place in a list.
use Rattle.std.proofs.Common.{◌≡◌, ℕ, ◌^◌, nat_lt, Bool, true, false, if◌then◌else◌, List, Option, Some, None, Ok, Err, IfOk, refl, arith}
use Rattle.std.specs.Str.{bytes_eq}
use Rattle.std.proofs.lemmas.Slice.Eq.{bytes_eq-Decides}
use Rattle.mc_outside.specs.declared.named.NamedFile.{NamedFile}
use Rattle.mc_outside.specs.declared.shelf.FileNo.{FileNo}
use Rattle.mc_outside.specs.declared.shelf.ShelfError.TheVariants.{NoMemory}
use Rattle.mc_outside.specs.Shelf.{Opens, Lacks, OpenCause}
use Rattle.mc_outside.specs.Named.{name_of, file_of, name_at, place_of, numbered}
use Rattle.mc_outside.proofs.Found.{found_at, find_none}

pub opens : (files : List NamedFile) (name : List ℕ) (i : ℕ) → place_of files name ≡ Some i → Opens (Some (file_of files)) (name_at files) name i
opens files name i e =
    let f = found_at (λ (f : NamedFile). bytes_eq (name_of f) name) i files e in
    let same : name_of f.item ≡ name = (bytes_eq-Decides (name_of f.item) name).0 f.passes in
    (rw (f.at, same) refl, rw f.first tt)

pub lacks : (files : List NamedFile) (name : List ℕ) → place_of files name ≡ None → Lacks (Some (file_of files)) name
lacks files name e = rw (find_none (λ (f : NamedFile). bytes_eq (name_of f) name) 0 files e) refl

-- what the answer to opening a name says of the files
at_number : (files : List NamedFile) (name : List ℕ) (i : ℕ) (b : Bool) → place_of files name ≡ Some i → IfOk (if b then Ok (record { 0 = i }) else Err NoMemory) (λ (n : FileNo). Opens (Some (file_of files)) (name_at files) name n.0)
at_number files name i true e = opens files name i e
at_number files name i false e = tt

at_cause : (files : List NamedFile) (name : List ℕ) (n m i : ℕ) (b : Bool) → n ≡ m → OpenCause {T = FileNo} (Some (file_of files)) name n m (if b then Ok (record { 0 = i }) else Err NoMemory)
at_cause files name n m i true s = record { later = omega arith; not_found = λ f. absurd cc; failed = λ f. absurd cc }
at_cause files name n m i false s = record { later = omega arith; not_found = λ f. absurd cc; failed = λ f. absurd cc }

pub number_opens : (files : List NamedFile) (name : List ℕ) (o : Option ℕ) → place_of files name ≡ o → IfOk (numbered o) (λ n. Opens (Some (file_of files)) (name_at files) name n.0)
number_opens files name None e = tt
number_opens files name (Some i) e = at_number files name i (nat_lt i (2 ^ 32)) e

pub number_cause : (files : List NamedFile) (name : List ℕ) (n m : ℕ) (o : Option ℕ) → place_of files name ≡ o → n ≡ m → OpenCause (Some (file_of files)) name n m (numbered o)
number_cause files name n m None e s = record { later = omega arith; not_found = λ _. lacks files name e; failed = λ f. absurd cc }
number_cause files name n m (Some i) e s = at_cause files name n m i (nat_lt i (2 ^ 32)) s
