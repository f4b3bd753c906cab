-- The children of an element, which stand one after the other in its body (RFC 8794, section 6).
use Rattle.std.specs.Prelude.{ℕ, zero, suc, ◌-◌, Bool, false, not, ◌||◌, nat_le, ◌==◌, if◌then◌else◌, List, [], ◌∷◌, length, find, Option, Some, None}
use Rattle.mc_ebml.specs.Whole.{element_at}
use Rattle.mc_ebml.specs.declared.whole.WholeElement.{WholeElement}
use Rattle.mc_tracks.specs.declared.children.Master.{Master}
use Rattle.mc_tracks.specs.declared.children.Master.TheVariants.{EbmlHeader, Info, Tracks, TrackEntry}
use Rattle.mc_ebml.specs.Ids.{EBML_READ_VERSION, EBML_MAX_ID_LENGTH, EBML_MAX_SIZE_LENGTH, DOC_TYPE_READ_VERSION, TIMESTAMP_SCALE, TRACK_NUMBER, TRACK_UID, TRACK_TYPE, FLAG_DEFAULT, DEFAULT_DURATION}

-- the children that are read as unsigned integers
abbrev pub is_integer : Master → ℕ → Bool
is_integer EbmlHeader id = id == EBML_READ_VERSION || id == EBML_MAX_ID_LENGTH || id == EBML_MAX_SIZE_LENGTH || id == DOC_TYPE_READ_VERSION
is_integer Info id = id == TIMESTAMP_SCALE
is_integer Tracks id = false
is_integer TrackEntry id = id == TRACK_NUMBER || id == TRACK_UID || id == TRACK_TYPE || id == FLAG_DEFAULT || id == DEFAULT_DURATION

-- an integer has at most 8 octets (RFC 8794, section 7.2)
abbrev pub if_readable : Master → Option WholeElement → Option WholeElement
if_readable master None = None
if_readable master (Some c) = if nat_le (c.stop - c.at) 8 || not (is_integer master c.id) then Some c else None

-- the child at a place of a body: it stands whole there, and is no integer of more than 8 octets
unfoldable pub child_at : Master → List ℕ → ℕ → Option WholeElement
child_at master body place = if_readable master (element_at body place)

-- the children of a body in file order, up to the first that cannot be read, and the place of that one
pub record Children : Type 0 where
  pub whole : List WholeElement
  pub broken : Option ℕ

abbrev pub no_more : Children
no_more = record { whole = []; broken = None }

abbrev pub and_then : ℕ → Option WholeElement → (WholeElement → Children) → Children
and_then place None others = record { whole = []; broken = Some place }
and_then place (Some c) others = record { whole = c ∷ (others c).whole; broken = (others c).broken }

-- the children from a place on, of at most so many
unfoldable pub children : ℕ → Master → List ℕ → ℕ → Children
children zero master body place = no_more
children (suc n) master body place =
    if place == length body then no_more else and_then place (child_at master body place) (λ c. children n master body c.stop)

-- the children of a body; a child has at least one octet, so that there are at most as many as octets
unfoldable pub children_of : Master → List ℕ → Children
children_of master body = children (length body) master body 0

-- the first child of an ID counts
abbrev pub first : ℕ → List WholeElement → Option WholeElement
first id cs = find (λ (c : WholeElement). c.id == id) cs
