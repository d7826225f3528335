-- Words that can't be had.
use Rattle.std.specs.declared.io.ErrorKind.{ErrorKind}
use Rattle.std.specs.declared.io.ErrorKind.TheVariants.{OutOfMemory}
use Rattle.tis_cli.specs.declared.status.Status.{Status}
use Rattle.tis_cli.specs.declared.status.Status.TheVariants.{Words, NoMemory}

-- how the program ends where the system doesn't give its words: want of memory alone is that, else they are no command
abbrev pub status_without_words : ErrorKind → Status
status_without_words OutOfMemory = NoMemory
status_without_words _ = Words
