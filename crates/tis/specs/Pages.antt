-- What the program prints on its own.
use Rattle.std.specs.Prelude.{ℕ, List, [], ◌∷◌, Option, Some, None, codes, if◌then◌else◌}
use Rattle.std.specs.Str.{bytes_eq}
use Rattle.tis.specs.declared.pages.Pages.{Pages}

-- the page of the command with a word, where there is one
abbrev pub page_behind : Pages → List ℕ → Option (List ℕ)
page_behind pages word =
    if bytes_eq word (codes "compile") then Some pages.compile.now
    else if bytes_eq word (codes "net") then Some pages.net.now
    else if bytes_eq word (codes "grade") then Some pages.grade.now
    else if bytes_eq word (codes "run") then Some pages.run.now
    else if bytes_eq word (codes "order") then Some pages.order.now
    else if bytes_eq word (codes "replay") then Some pages.replay.now
    else if bytes_eq word (codes "debug") then Some pages.debug.now
    else None

-- the text for these words: that of all commands for `--help` alone, the page of a command for `--help` behind its word, the version for `--version` alone, and else none
abbrev pub page_of : Pages → List (List ℕ) → Option (List ℕ)
page_of pages (word ∷ []) = if bytes_eq word (codes "--help") then Some pages.all.now else if bytes_eq word (codes "--version") then Some pages.version.now else None
page_of pages (command ∷ word ∷ []) = if bytes_eq word (codes "--help") then page_behind pages command else None
page_of pages _ = None
