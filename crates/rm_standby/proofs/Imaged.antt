-- An image of states holds the states, and is a valid set.
use Rattle.std.specs.{List.{sum_by}, Option.{option_map_or}, Prelude.{Contains}}
use Rattle.std.proofs.Common.{◌≡◌, ◌∙◌, ◌+◌, ◌^◌, ◌<◌, ◌≤◌, ℕ, zero, suc, List, [], ◌∷◌, Bool, true, false, nat_lt, if◌then◌else◌, inl, inr, refl, ap, sym, subst, arith, get_or, length, map, take, All}
use Rattle.std.proofs.lemmas.{Bool.Decides.{nat_tests}, List.{get_or-map, length-map, Elements.{All-contains, All-map}, Sums.{sum_by-cons}}}
use Rattle.std.proofs.lemmas.Option.{slice_get-get_or}
use Rattle.rm_base.specs.{Created.{created_row}, Numbers.{last_scn}, declared.block.{Change.{Change}, Row.{Row}}}
use Rattle.rm_base.proofs.{Lists.{map_from, map_to}, Members.{first-or-rest, none-in}}
use Rattle.rm_blocks.specs.File.{File, IsInOrder}
use Rattle.rm_history.specs.{Agrees.{IsRow as IsRead}, History.{IsHistory}, State.{rows_from, state, states}, World.{creation_of}}
use Rattle.rm_history.{specs.declared.world.{Datafile.{Datafile}, World.{World}}, proofs.States.{both-hold}}
use Rattle.rm_piece.specs.{Filling.{risen}, Rows.{IsWhole}, Sets.{blocks_in, IsMember, IsSet}, Valid.{IsRow}}
use Rattle.rm_piece.{specs.declared.set.SetFile.{SetFile}, proofs.Risen.{risen-since, risen-whole, states-same}}
use Rattle.rm_standby.specs.{Image.{creation_in, imaged, imaged_member, AreStates, CanImage, StandsAt}, Standby.{HoldsStates, IsTaken}}

-- ---- an image of states

-- each of the states of a datafile is the state of its block
state-read : (w : World) (h : List Change) (i s f b n : ℕ) (r : Row) → Contains (rows_from (state w h i s f) b n) r → IsRead w h i f s r
state-read w h i s f b zero r has = absurd (none-in r has)
state-read w h i s f b (suc n) r has = elim (first-or-rest (state w h i s f b) (rows_from (state w h i s f) (b + 1) n) r has) [
  | inl is ↦ subst (IsRead w h i f s) is (record { position = s; after = omega arith; is = refl })
  | inr rest ↦ state-read w h i s f (b + 1) n r rest
]

states-risen : (w : World) (h : List Change) (i s f n : ℕ) → IsHistory w h → map (risen (creation_of w f)) (states w h i s f n) ≡ states w h i s f n
states-risen w h i s f n history = states-same w h i f s (states w h i s f n) history (state-read w h i s f 0 n)

member-taken : (w : World) (h : List Change) (dbid inc checkpoint : ℕ) (x : File) → IsHistory w h → StandsAt w inc checkpoint x → x.rows ≡ states w h inc checkpoint x.file (length x.rows) → IsTaken w h inc checkpoint (λ rows. rows) (imaged_member dbid (creation_of w x.file) x)
member-taken w h dbid inc checkpoint x history stands are =
    let all : x.rows ≡ states w h inc checkpoint x.file stands.datafile.blocks = are ∙ ap (states w h inc checkpoint x.file) stands.blocks in
    record {
      datafile = stands.datafile;
      is = stands.is;
      exists = stands.exists;
      creation = ap (λ o. option_map_or (λ (d : Datafile). d.creation) o 0) stands.is;
      blocks = stands.blocks;
      rows = ap (map (risen (creation_of w x.file))) all ∙ states-risen w h inc checkpoint x.file stands.datafile.blocks history;
    }

pub image-holds : (w : World) (h : List Change) (dbid inc checkpoint : ℕ) (files : List File) → IsHistory w h → CanImage w dbid inc checkpoint files → AreStates w h inc checkpoint files → HoldsStates w h (imaged w dbid inc checkpoint files)
image-holds w h dbid inc checkpoint files history can are =
    let make : File → SetFile = λ x. imaged_member dbid (creation_of w x.file) x in
    record {
      each = λ f d is there.
          let has = are.every f d is there in
          record { member = make has.0; held = map_to make files has.0 has.1; is = has.2 };
      taken = λ m has.
          let source = map_from make files m has in
          subst (IsTaken w h inc checkpoint (λ rows. rows)) source.is
          (member-taken w h dbid inc checkpoint source.item history (All-contains (StandsAt w inc checkpoint) files source.item can.each source.held) (are.rows source.item source.held));
    }

-- ---- a valid set

-- what is true of a row and of it as it was created is so of it as it counts
risen-keeps : (P : Row → Type 0) (creation : ℕ) (r : Row) → P r → P (created_row creation r.block) → P (risen creation r)
risen-keeps P creation r kept made = cases (nat_lt creation r.version)
  where
    cases : (b : Bool) → P (if b then r else created_row creation r.block)
    cases true = kept
    cases false = made

pub versions-risen : (creation : ℕ) (rows : List Row) → creation < last_scn → All (λ r. r.version < last_scn) rows → All (λ r. r.version < last_scn) (map (risen creation) rows)
versions-risen creation rows below all =
    All-map (λ (r : Row). r.version < last_scn) (risen creation) rows (λ k d inside. risen-keeps (λ (r : Row). r.version < last_scn) creation (get_or rows k d) (all k d inside) below)

contents-risen : (creation : ℕ) (rows : List Row) → All (λ r. length r.content.0 ≡ 64) rows → All (λ r. length r.content.0 ≡ 64) (map (risen creation) rows)
contents-risen creation rows all =
    All-map (λ (r : Row). length r.content.0 ≡ 64) (risen creation) rows (λ k d inside. risen-keeps (λ (r : Row). length r.content.0 ≡ 64) creation (get_or rows k d) (all k d inside) refl)

in-order : (rows : List Row) → IsInOrder rows → IsWhole rows
in-order rows order k d inside = order k (get_or rows k d) (slice_get-get_or rows k d inside)

-- what is known of a datafile that stands there
pub record IsGood (creation checkpoint : ℕ) (x : File) : Type 0 where
  pub some : 1 ≤ creation
  pub below : creation < checkpoint
  pub last : checkpoint ≤ last_scn
  pub few : (1 ≤ length x.rows) × (length x.rows ≤ 65536)
  pub versions : All (λ r. r.version < last_scn) x.rows

lt_holds : (a b : ℕ) → nat_lt a b ≡ true → a < b
lt_holds a b h = grind (arith, nat_tests)

pub good : (w : World) (inc checkpoint : ℕ) (x : File) → checkpoint ≤ last_scn → StandsAt w inc checkpoint x → IsGood (creation_of w x.file) checkpoint x
good w inc checkpoint x last stands =
    let is : creation_of w x.file ≡ stands.datafile.creation = ap (λ o. option_map_or (λ (d : Datafile). d.creation) o 0) stands.is in
    let low = lt_holds stands.datafile.creation checkpoint (both-hold _ _ stands.exists).0 in
    record {
      some = omega (arith, is, stands.created);
      below = omega (arith, is, low);
      last = last;
      few = subst (λ (n : ℕ). (1 ≤ n) × (n ≤ 65536)) (sym stands.blocks) stands.few;
      versions = λ k d inside. let below : (get_or x.rows k d).version < checkpoint = stands.below k d inside in omega (arith, below, last);
    }

-- rows of all blocks, as they count in a set
rows-valid : (creation : ℕ) (rows : List Row) → 1 ≤ creation → creation < last_scn → IsWhole rows → All (λ r. r.version < last_scn) rows → All (λ r. length r.content.0 ≡ 64) rows → All (IsRow (length rows) 0) (map (risen creation) rows)
rows-valid creation rows some below whole versions contents k d inside =
    let place : (get_or (map (risen creation) rows) k d).block ≡ k = risen-whole creation rows whole k d inside in
    let since = (risen-since creation rows k d inside).since in
    record {
      block = omega (arith, place, inside, length-map rows (risen creation));
      version = (omega (arith, some, since), versions-risen creation rows below versions k d inside);
      from = omega arith;
      content = contents-risen creation rows contents k d inside;
    }

member-valid : (w : World) (dbid inc checkpoint : ℕ) (files : List File) (x : File) → CanImage w dbid inc checkpoint files → StandsAt w inc checkpoint x → IsMember (imaged w dbid inc checkpoint files) (imaged_member dbid (creation_of w x.file) x)
member-valid w dbid inc checkpoint files x can stands =
    let c = creation_of w x.file in
    let rows = map (risen c) x.rows in
    let is = good w inc checkpoint x can.last stands in
    let whole = in-order x.rows stands.order in
    let many : length rows ≡ length x.rows = length-map x.rows (risen c) in
    record {
      of = record { dbid = refl; inc = stands.of; checkpoint = stands.at };
      piece = record {
        dbid = can.number;
        inc = subst (λ (i : ℕ). (1 ≤ i) × (i < 2 ^ 32)) (sym stands.of) can.positive;
        file = stands.number;
        blocks = is.few;
        checkpoint = (omega (arith, stands.at, is.below), omega (arith, stands.at, is.last));
        kind = (refl, many);
        ascend = λ i j d less inside. omega (arith, risen-whole c x.rows whole i d (omega (arith, less, inside)), risen-whole c x.rows whole j d inside, less);
        rows = rows-valid c x.rows is.some (omega (arith, is.below, is.last)) whole is.versions stands.contents;
        high = refl;
      };
      kind = λ e. absurd cc;
      creation = (is.some, is.below);
      rows = risen-since c x.rows;
      whole = λ low. many;
    }

blocks-same : (make : File → SetFile) → ((x : File) → (make x).piece.blocks ≡ length x.rows) → (xs : List File) → blocks_in (map make xs) ≡ sum_by (λ x. length x.rows) xs
blocks-same make same [] = refl
blocks-same make same (x ∷ xs) =
    omega (arith, sum_by-cons (λ (n : SetFile). n.piece.blocks) (make x) (map make xs), sum_by-cons (λ (y : File). length y.rows) x xs, blocks-same make same xs, same x)

pub image-valid : (w : World) (dbid inc checkpoint : ℕ) (files : List File) → CanImage w dbid inc checkpoint files → IsSet (imaged w dbid inc checkpoint files)
image-valid w dbid inc checkpoint files can =
    let make : File → SetFile = λ x. imaged_member dbid (creation_of w x.file) x in
    let many : length (map make files) ≡ length files = length-map files make in
    record {
      dbid = can.number.1;
      inc = can.positive.1;
      checkpoint = omega (arith, can.last);
      few = omega (arith, many, can.few);
      ascend = λ i j d less inside.
          let e : File = record { file = 0; inc = 0; checkpoint = 0; rows = [] } in
          let one : (get_or (map make files) i d).piece.file ≡ (get_or files i e).file = ap (λ (m : SetFile). m.piece.file) (get_or-map make files i e d (omega (arith, less, inside, many))) in
          let two : (get_or (map make files) j d).piece.file ≡ (get_or files j e).file = ap (λ (m : SetFile). m.piece.file) (get_or-map make files j e d (omega (arith, inside, many))) in
          let step : (get_or files i e).file < (get_or files j e).file = can.ascend i j e less (omega (arith, inside, many)) in
          omega (arith, one, two, step);
      members = All-map (IsMember (imaged w dbid inc checkpoint files)) make files (λ k d inside. member-valid w dbid inc checkpoint files (get_or files k d) can (can.each k d inside));
      blocks = omega (arith, blocks-same make (λ x. refl) files, can.room);
    }

-- a set of such members is the image, whatever else the world has
pub image-is : (w : World) (datafiles : List Datafile) (dbid inc checkpoint k : ℕ) (files : List File) (made : List SetFile) → w.files ≡ datafiles
    → made ≡ map (λ x. imaged_member dbid (creation_in datafiles x.file) x) (take k files) → take k files ≡ files
    → imaged w dbid inc checkpoint files ≡ record { dbid = dbid; inc = inc; checkpoint = checkpoint; members = made }
image-is w datafiles dbid inc checkpoint k files made same is all =
    let list : map (λ x. imaged_member dbid (creation_in w.files x.file) x) files ≡ made =
    (λ i. map (λ x. imaged_member dbid (creation_in (same i) x.file) x) (sym all i)) ∙ sym is in
    λ i. record { dbid = dbid; inc = inc; checkpoint = checkpoint; members = list i }
