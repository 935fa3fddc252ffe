use Rattle.rm_retain.proofs.SecondTime.{floor_stays, chosen_stays, backup_again, log_again}
use Rattle.rm_retain.proofs.laws.nothing_goes_twice.Goals as goal

pub returns-clause-floor : goal.returns-clause-floor
returns-clause-floor c r left f are path = floor_stays r left f are path

pub returns-clause-chosen : goal.returns-clause-chosen
returns-clause-chosen c r left f id are path = chosen_stays r left f are path id

pub returns-clause-backup : goal.returns-clause-backup
returns-clause-backup c r left x are = backup_again r left are x

pub returns-clause-log : goal.returns-clause-log
returns-clause-log c r left inc next are = log_again r left are inc next
