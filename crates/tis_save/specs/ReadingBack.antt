-- The canonical save of programs is read as these programs.
use Rattle.std.specs.Prelude.{◌≡◌, ℕ, Ok}
use Rattle.tis_base.specs.Tiles.{AreTiles}
use Rattle.tis_asm.specs.Programs.{Programs, ArePrograms, IsSound, program_at}
use Rattle.tis_save.specs.Writing.{save_text}
use Rattle.tis_save.specs.Reading.{save_of}

-- the canonical save of programs whose jumps stay inside is read as these programs
abbrev pub SavesReadBack : Type 0
SavesReadBack = (programs : Programs) → AreTiles programs.tiles.shape programs.tiles.kinds → ArePrograms programs → ((tile : ℕ) → IsSound (program_at programs.programs tile)) → save_of (save_text programs) programs.tiles ≡ Ok programs
