-- A database at rest, between two sessions: its records, and what nobody sees. What runs is loaded by the next session.
use Rattle.std.specs.{Prelude.{ℕ, ◌≡◌, ◌<◌, ◌^◌, Option, Some, None, IfSome, List, [], All, Contains}, Option.{option_map}}
use Rattle.rm_base.specs.{Store.{Held}, declared.block.Change.{Change}}
use Rattle.rm_catalog.specs.declared.record.PartEntry.{PartEntry}
use Rattle.rm_history.specs.{History.{IsHistory}, Tree.{end_of}}
use Rattle.rm_evidence.specs.{Names.{site_name}, Objects.{HasDigest}}
use Rattle.rm_catalog_typed.specs.{Facts.{IsTypedCatalog}, TypedCatalog.{TypedCatalog, Saved}, Worlds.{world_of}}
use Rattle.rm_machine.specs.{Effect.{Artefact, Made}, Loading.{IsLoaded}, Machine.{HaveArtefacts, HoldsUnder, IsTrueArtefact, Machine}}
use Rattle.rm_machine.specs.{Saved.{IsOfPart, spelling_of}, declared.state.State.{State}}

pub record Rest : Type 0 where
  -- the records of the database, where there is one
  pub catalog : Option TypedCatalog
  -- as of a machine
  pub history : List Change
  pub objects : Held
  pub made : List Made
  pub touched : List (List ℕ)

-- the catalog of a database
abbrev pub catalog_in : Option State → Option TypedCatalog
catalog_in o = option_map (λ s. s.catalog) o

-- what is left of the machine where its session ends so
abbrev pub at_rest : Machine → Rest
at_rest m = record { catalog = catalog_in m.state; history = m.history; objects = m.objects; made = m.made; touched = m.touched }

-- the part is that of an artefact, which stands under its name
pub record HasPartArtefact (objects : Held) (made : List Made) (touched : List (List ℕ)) (p : PartEntry) : Type 0 where
  pub artefact : Artefact
  pub of : IsOfPart p artefact
  pub is : Contains made (record { name = site_name p.id; artefact = artefact })
  pub digest : HasDigest (spelling_of artefact) p.size p.sha
  pub there : HoldsUnder objects touched (site_name p.id) (spelling_of artefact)

-- each part of a saved site has its artefact
abbrev pub HaveParts : Held → List Made → List (List ℕ) → Option Saved → Type 0
HaveParts objects made touched saved = IfSome saved (λ site. (p : PartEntry) → Contains site.parts p → HasPartArtefact objects made touched p)

-- the records are borne out, those of a saved site too
pub record IsRestBorneOut (c : TypedCatalog) (h : List Change) (objects : Held) (made : List Made) (touched : List (List ℕ)) : Type 0 where
  pub catalog : IsTypedCatalog c
  pub dbid : c.ledger.base.dbid < 2 ^ 32
  pub history : IsHistory (world_of c.ledger) h
  pub below : All (λ x. x.scn < end_of c.ledger.tree x.inc) h
  pub artefacts : (a : Made) → Contains made a → IsTrueArtefact (world_of c.ledger) h a.artefact
  pub records : HaveArtefacts objects made touched c.ledger
  pub parts : HaveParts objects made touched c.saved

-- a database is borne out; without one nothing was ever written or recorded
abbrev pub IsSoundRestBy : Option TypedCatalog → List Change → Held → List Made → List (List ℕ) → Type 0
IsSoundRestBy None h objects made touched = (h ≡ []) × (made ≡ [])
IsSoundRestBy (Some c) h objects made touched = IsRestBorneOut c h objects made touched

abbrev pub IsSoundRest : Rest → Type 0
IsSoundRest r = IsSoundRestBy r.catalog r.history r.objects r.made r.touched

-- Digests tell of a saved site: where HOST touched the name of a part, bytes under it that have the part's size and SHA-256
-- are those that it was made for.
pub record PartsTellFor (objects : Held) (made : List Made) (touched : List (List ℕ)) (site : Saved) : Type 0 where
  pub parts : (p : PartEntry) (a : Artefact) (bytes : List ℕ) → Contains touched (site_name p.id) → Contains site.parts p → Contains made (record { name = site_name p.id; artefact = a }) → HasDigest (spelling_of a) p.size p.sha
      → objects (site_name p.id) ≡ Some bytes → HasDigest bytes p.size p.sha → bytes ≡ spelling_of a

abbrev pub PartsTell : Rest → Type 0
PartsTell r = IfSome r.catalog (λ c. IfSome c.saved (PartsTellFor r.objects r.made r.touched))

-- From its rest the machine wakes: what runs is what is loaded, and all else stays.
pub record Wakes (r : Rest) (m : Machine) : Type 0 where
  pub rest : at_rest m ≡ r
  pub loaded : IfSome m.state (IsLoaded m.objects)
