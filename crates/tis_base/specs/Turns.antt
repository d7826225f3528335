-- What becomes of a call on a file or on standard output.
use Rattle.std.specs.Prelude.{ℕ, Result, Ok, Err, ◌==◌, if◌then◌else◌}
use Rattle.std.specs.declared.io.Error.{Error}
use Rattle.std.specs.declared.io.ErrorKind.{ErrorKind}
use Rattle.std.specs.declared.io.ErrorKind.TheVariants.{NotFound, OutOfMemory, Interrupted, WriteZero}
use Rattle.std.specs.IoError.{error_kind}
use Rattle.tis_base.specs.declared.store.StoreError.{StoreError}
use Rattle.tis_base.specs.declared.store.StoreError.TheVariants as answer
use Rattle.tis_base.specs.declared.turns.AfterRead.{AfterRead}
use Rattle.tis_base.specs.declared.turns.AfterRead.TheVariants as read
use Rattle.tis_base.specs.declared.turns.AfterWrite.{AfterWrite}
use Rattle.tis_base.specs.declared.turns.AfterWrite.TheVariants as written

-- what the store answers where a file can't be read, made or written: want of memory alone is that, all else is a fault
abbrev pub cause_of : ErrorKind → StoreError
cause_of OutOfMemory = answer.NoMemory
cause_of _ = answer.Failed

-- and where it can't be opened to be read: one that isn't there, and it alone, is missing
abbrev pub cause_of_open : ErrorKind → StoreError
cause_of_open NotFound = answer.Missing
cause_of_open kind = cause_of kind

-- what follows an error of a read: an interrupted one is tried again, any other ends the reading
abbrev pub after_failed_read : ErrorKind → AfterRead
after_failed_read Interrupted = read.Retry
after_failed_read kind = read.Fail (cause_of kind)

-- what follows a read: one that gives no byte has found the end
abbrev pub after_read : Result ℕ Error → AfterRead
after_read (Ok count) = if count == 0 then read.Finish else read.Keep count
after_read (Err error) = after_failed_read (error_kind error)

-- what follows an error of a write: an interrupted one is tried again, any other ends the writing
abbrev pub after_failed_write : ErrorKind → AfterWrite
after_failed_write Interrupted = written.Retry
after_failed_write kind = written.Fail kind

-- what follows a write: one that takes no byte would never end, and is an error
abbrev pub after_write : Result ℕ Error → AfterWrite
after_write (Ok count) = if count == 0 then written.Fail WriteZero else written.Advance count
after_write (Err error) = after_failed_write (error_kind error)
