-- From what stands after a statement to the machine after it.
use Rattle.std.proofs.Common.{◌≡◌, ◌++◌, ℕ, List, Option, Some, None, refl, sym, subst}
use Rattle.rm_base.specs.{Store.{Held}, declared.{block.Change.{Change}, refusal.Refusal.{Refusal}}}
use Rattle.rm_machine.specs.{Effect.{Effect, LeavesObjects, Made, done, told}, Honest.{IsHonest}, Laws.{LeadsOn, StaysSound, TellsOn}}
use Rattle.rm_machine.specs.{Machine.{Machine, IsSoundBy, IsBorneOut, DigestsTellFor, TellBy}, Sound.{IsSound}, State.{ledger, at_moment}}
use Rattle.rm_machine.specs.Step.{IsStatement, IsDone, IsOutcome, IsOutcomeBy, Means, and_drops, names_in, refusal_of}
use Rattle.rm_machine.{specs.declared.state.State.{State}, proofs.{Dropping.{IsNoSite}, Kept.{stand-same}}}
use Rattle.rm_machine.proofs.Later.{borne-beside, borne-later, sound-later}
use Rattle.rm_lang_statement.specs.declared.command.Command.{Command, TheVariants.{BackupFrom, BlockRecover, DeleteObsolete, Recover}}
use Rattle.rm_report.specs.declared.line.Line.{Line}
use Rattle.rm_machine_laws.proofs.{Beside.{safe-beside}, Dropping.{leaves-first, left_by, stand-beyond, stays-beyond}}

-- what was done was not refused
pub done-by : (r : Option Refusal) (s : State) (held : Held) (c : Command) (said : List Line) (e : Effect) (t : State)
    → IsOutcomeBy r s held c (done said e t) → (r ≡ None) × IsDone s held c (done said e t)
done-by (Some r) s held c said e t is = absurd (cc)
done-by None s held c said e t is = (refl, is)

-- what is to be shown of a statement, and, of one of which more is known, that too
abbrev pub ShownBy : Command → Type 0 → Type 0 → Type 0
ShownBy (Recover until) stands means = stands × means
ShownBy DeleteObsolete stands means = stands × means
ShownBy (BlockRecover form) stands means = stands × means
ShownBy (BackupFrom scn) stands means = stands × means
ShownBy _ stands means = stands

abbrev pub LeadsOnBy : Command → Type 0
LeadsOnBy c =
    (s : State) (h : List Change) (objects : Held) (made : List Made) (touched : List (List ℕ)) (said : List Line) (e : Effect) (t : State) (after : Held)
    → IsStatement c → IsBorneOut s h objects made touched → DigestsTellFor objects made touched (ledger s)
    → refusal_of s c ≡ None → IsDone s objects c (done said e t) → LeavesObjects e objects after
    → ShownBy c (IsBorneOut t (h ++ e.changes) after (made ++ e.made) (names_in c ++ touched)) (Means (Some s) h objects c (done said e t) after)

-- both, of each statement
shown : (c : Command) (s : State) (h : List Change) (held : Held) (said : List Line) (e : Effect) (t : State) (after : Held) (stands : Type 0) → ShownBy c stands (Means (Some s) h held c (done said e t) after) → stands × Means (Some s) h held c (done said e t) after
shown (Recover until) s h held said e t after stands both = both
shown DeleteObsolete s h held said e t after stands both = both
shown (BlockRecover form) s h held said e t after stands both = both
shown (BackupFrom scn) s h held said e t after stands both = both
shown _ s h held said e t after stands is = (is, tt)

-- what is known of the objects that the effect leaves is known of them without those of a saved site
means-beside : (c : Command) (s : State) (h : List Change) (held : Held) (said : List Line) (e : Effect) (t : State) (after last : Held) → ((name : List ℕ) → IsNoSite name → last name ≡ after name)
    → Means (Some s) h held c (done said e t) after → Means (Some s) h held c (done said e t) last
means-beside (Recover until) s h held said e t after last same means = means
means-beside (BlockRecover form) s h held said e t after last same means = means
means-beside (BackupFrom scn) s h held said e t after last same means = means
means-beside DeleteObsolete s h held said e t after last same means = safe-beside (ledger s).base.policy s held t after last same means
means-beside _ s h held said e t after last same means = tt

-- the same of a statement of which more is asked: this of its state, of the objects, and of what was ever made
abbrev pub LeadsOnAsking : Command → (State → Held → List Made → Type 0) → Type 0
LeadsOnAsking c Asks =
    (s : State) (h : List Change) (objects : Held) (made : List Made) (touched : List (List ℕ)) (said : List Line) (e : Effect) (t : State) (after : Held)
    → IsStatement c → IsBorneOut s h objects made touched → DigestsTellFor objects made touched (ledger s) → Asks s objects made
    → refusal_of s c ≡ None → IsDone s objects c (done said e t) → LeavesObjects e objects after
    → ShownBy c (IsBorneOut t (h ++ e.changes) after (made ++ e.made) (names_in c ++ touched)) (Means (Some s) h objects c (done said e t) after)

-- it is so in an honest world
abbrev pub IsGiven : Command → (State → Held → List Made → Type 0) → Type 0
IsGiven c Asks =
    (m : Machine) (s : State) (moment : ℕ) (said : List Line) (e : Effect) (t : State)
    → IsHonest m c → m.state ≡ Some s → IsOutcome (at_moment s moment) m.objects c (done said e t) → Asks (at_moment s moment) m.objects m.made

pub leads-asking : (c : Command) (Asks : State → Held → List Made → Type 0) → IsGiven c Asks → LeadsOnAsking c Asks → LeadsOn c
leads-asking c Asks given law m s moment said e t after well is sound honest at goes effect =
    let was : IsBorneOut s m.history m.objects m.made m.touched = subst (λ o. IsSoundBy o m.history m.objects m.made m.touched) is sound in
    let begun : State = at_moment s moment in
    let stands : IsBorneOut begun m.history m.objects m.made m.touched = borne-later s m.history m.objects m.objects m.made m.touched m.touched moment was at (stand-same m.objects m.objects m.touched (ledger s) (ledger s) (λ n. refl)) in
    let told : DigestsTellFor m.objects m.made m.touched (ledger s) = subst (λ o. TellBy o m.objects m.made m.touched) is honest.digests in
    let tells : DigestsTellFor m.objects m.made m.touched (ledger begun) = record { logs = told.logs; pieces = told.pieces; sets = told.sets } in
    let both = done-by (refusal_of begun c) begun m.objects c said e t goes in
    let n : Machine = record { state = Some t; history = m.history ++ e.changes; objects = after; made = m.made ++ e.made; touched = names_in c ++ m.touched } in
    let first : Held = left_by s e m.objects after effect in
    let on = shown c begun m.history m.objects said e t first (IsBorneOut t n.history first n.made n.touched)
    (law begun m.history m.objects m.made m.touched said e t first well stands tells (given m s moment said e t honest is goes) both.0 both.1 (leaves-first s e m.objects after effect)) in
    let borne = borne-beside t n.history first after n.made n.touched n.touched on.0 (stand-beyond s e m.objects after effect n.touched (ledger t)) in
    let leaves : LeavesObjects (and_drops m.state e) m.objects after = subst (λ o. LeavesObjects (and_drops o e) m.objects after) (sym is) effect in
    let means : Means (Some begun) m.history m.objects c (done said e t) after = means-beside c begun m.history m.objects said e t first after (stays-beyond s e m.objects after effect) on.1 in
    (n, (refl, record { state = refl; history = refl; objects = leaves; made = refl; touched = refl }, means), refl, borne)

-- of each other statement no more is asked
pub leads : (c : Command) → LeadsOnBy c → LeadsOn c
leads c law = leads-asking c (λ s objects made. Unit {0}) (λ m s moment said e t honest is goes. tt) (λ s h objects made touched said e t after well stands tells more. law s h objects made touched said e t after well stands tells)

-- what tells was not refused
told-by : (r : Option Refusal) (s : State) (held : Held) (c : Command) (lines : List Line) → IsOutcomeBy r s held c (told lines) → (r ≡ None) × IsDone s held c (told lines)
told-by (Some r) s held c lines is = absurd (cc)
told-by None s held c lines is = (refl, is)

-- what is to be shown of a statement that tells
abbrev pub TellsOnBy : Command → Type 0
TellsOnBy c =
    (s : State) (h : List Change) (objects : Held) (made : List Made) (touched : List (List ℕ)) (lines : List Line)
    → IsStatement c → IsBorneOut s h objects made touched → DigestsTellFor objects made touched (ledger s)
    → refusal_of s c ≡ None → IsDone s objects c (told lines) → Means (Some s) h objects c (told lines) objects

pub tells : (c : Command) → TellsOnBy c → TellsOn c
tells c law m s moment lines well is sound honest at goes =
    let was : IsBorneOut s m.history m.objects m.made m.touched = subst (λ o. IsSoundBy o m.history m.objects m.made m.touched) is sound in
    let begun : State = at_moment s moment in
    let stands : IsBorneOut begun m.history m.objects m.made m.touched = borne-later s m.history m.objects m.objects m.made m.touched m.touched moment was at (stand-same m.objects m.objects m.touched (ledger s) (ledger s) (λ n. refl)) in
    let known : DigestsTellFor m.objects m.made m.touched (ledger s) = subst (λ o. TellBy o m.objects m.made m.touched) is honest.digests in
    let knows : DigestsTellFor m.objects m.made m.touched (ledger begun) = record { logs = known.logs; pieces = known.pieces; sets = known.sets } in
    let both = told-by (refusal_of begun c) begun m.objects c lines goes in
    (refl, refl, law begun m.history m.objects m.made m.touched lines well stands knows both.0 both.1)

-- and that it leaves a sound state, from a sound one
abbrev pub StaysBy : Command → Type 0
StaysBy c =
    (s : State) (objects : Held) (said : List Line) (e : Effect) (t : State)
    → IsStatement c → IsSound s → s.catalog.saved ≡ None → refusal_of s c ≡ None → IsDone s objects c (done said e t) → IsSound t × (t.catalog.saved ≡ None)

pub stays : (c : Command) → StaysBy c → StaysSound c
stays c law s held moment said e t well is at goes =
    let begun : State = at_moment s moment in
    let both = done-by (refusal_of begun c) begun held c said e t goes in
    law begun held said e t well (sound-later s moment is at) refl both.0 both.1
