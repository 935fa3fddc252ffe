use Rattle.rm_session.proofs.SavedSites.{loaded}
use Rattle.rm_session.proofs.saved_laws.what_is_saved_is_loaded.Goals as goal

pub returns : goal.returns
returns c = loaded
