-- Which stop a failed call makes.
use Rattle.rm_base.specs.declared.store.StoreFail.{StoreFail, TheVariants.{Failed as StoreFailed, NoMemory as StoreWithout}}
use Rattle.rm_catalog.specs.declared.keeper.KeeperFail.{KeeperFail, TheVariants.{Failed as KeeperFailed, NoMemory as KeeperWithout}}
use Rattle.rm_commit.specs.declared.commit.Stop.{Stop, TheVariants.{StoreFault, KeeperFault, NoMemory}}

abbrev pub stop_of_store : StoreFail → Stop
stop_of_store StoreFailed = StoreFault
stop_of_store StoreWithout = NoMemory

abbrev pub stop_of_keeper : KeeperFail → Stop
stop_of_keeper KeeperFailed = KeeperFault
stop_of_keeper KeeperWithout = NoMemory
