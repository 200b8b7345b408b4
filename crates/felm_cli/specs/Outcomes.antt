-- How an order ends.
use Rattle.std.specs.Prelude.{◌≡◌, ℕ, ⊤, true, false, List, [], Option, Some, None, Result, Ok, Err, IfSome, IsSomeAnd, MatchOption}
use Rattle.std.specs.Io.KnownBytes.{Appends}
use Rattle.felm_io.specs.Causes.{Rose, AppendsPrefix}
use Rattle.felm_printer.specs.declared.status.Status.{Status}
use Rattle.felm_printer.specs.declared.status.Status.TheVariants.{Usage, Read, TooLong, Syntax, Typing, Script, Stage, Write, Memory}
use Rattle.felm_printer.specs.declared.status.Which.{Which}
use Rattle.felm_printer.specs.declared.status.Which.TheVariants as which
use Rattle.felm_cli.specs.Words.{Texts, OrderValue, file_of}
use Rattle.felm_cli.specs.Outside.{FilesValue, SinkValue, CountsStay}
use Rattle.felm_cli.specs.Texts.{is_within, first_long, texts_under, text_of, IsFirstLong, IsFaultOf, OfTexts, OfPlan}
use Rattle.felm_cli.specs.Ends.{Leaves, LeavesText}

-- ---- what a status says of itself

-- a load failed
abbrev pub IsRead : Status → Type 0
IsRead (Read which) = ⊤
IsRead _ = ⊥

-- something is wrong with the program's text or the script's
abbrev pub IsOfTexts : Status → Type 0
IsOfTexts (Syntax cause at) = ⊤
IsOfTexts (Typing cause at) = ⊤
IsOfTexts (Script cause line) = ⊤
IsOfTexts (Stage cause) = ⊤
IsOfTexts _ = ⊥

-- the program is too long, or couldn't be loaded, or there was no memory
abbrev pub IsOfLoad : Status → Type 0
IsOfLoad (TooLong which.Program) = ⊤
IsOfLoad (Read which.Program) = ⊤
IsOfLoad Memory = ⊤
IsOfLoad _ = ⊥

-- no text was to be put
abbrev pub IsQuiet : Status → Type 0
IsQuiet Usage = ⊤
IsQuiet (Read which) = ⊤
IsQuiet (TooLong which) = ⊤
IsQuiet status = IsOfTexts status

-- this holds where something was made, and else unless a load failed
abbrev pub UnlessRead : {T : Type 0} → Result T Status → Type 0 → Type 0
UnlessRead (Err (Read which)) P = ⊤
UnlessRead _ P = P

-- ---- texts

-- the bytes of an order's program are known, and too many
abbrev pub HasLongProgram : (List ℕ → Option (List ℕ)) → OrderValue → Type 0
HasLongProgram bytes order =
    IsSomeAnd (file_of which.Program order) (λ name. IsSomeAnd (bytes name) (λ text. is_within which.Program text ≡ false))

-- the text of a file was loaded, all of it, and isn't too long, and is empty where no file is named; or a status says why not
abbrev pub LoadedOrFault : {T : Type 0} → (T → List ℕ) → FilesValue → FilesValue → Option (List ℕ) → Which → Result T Status → Type 0
LoadedOrFault items files files' name which (Ok text) =
    MatchOption name (items text ≡ []) (λ name. IfSome (files.bytes name) (λ all. (items text ≡ all) × (is_within which all ≡ true)))
LoadedOrFault items files files' name which (Err (Read other)) =
    (other ≡ which) × IsSomeAnd name (λ name. Rose (files.faults name) (files'.faults name))
LoadedOrFault items files files' name which (Err (TooLong other)) =
    (other ≡ which) × IsSomeAnd name (λ name. IfSome (files.bytes name) (λ all. is_within which all ≡ false))
LoadedOrFault items files files' name which (Err Memory) = ⊤
LoadedOrFault items files files' name which (Err _) = ⊥

-- these are the program and the script of texts that aren't too long, where their bytes are known
abbrev pub AreLoaded : (List ℕ → Option (List ℕ)) → Texts → List ℕ → List ℕ → Type 0
AreLoaded bytes names program script =
    IfSome (texts_under bytes names) (λ texts. (first_long texts ≡ None) × (program ≡ text_of which.Program texts) × (script ≡ text_of which.Script texts))

-- why an order has no plan
abbrev pub NoPlan : FilesValue → FilesValue → OrderValue → Status → Type 0
NoPlan files files' order (Read which) = IsSomeAnd (file_of which order) (λ name. Rose (files.faults name) (files'.faults name))
NoPlan files files' order (TooLong which) = IsFirstLong files.bytes order.texts which
NoPlan files files' order Memory = ⊤
NoPlan files files' order status = IsOfTexts status × OfTexts files.bytes (Some order) (λ order texts. IsFaultOf order texts status)

-- ---- outcomes

-- how a text is put that a status is to leave
pub data PutAs (end : Status) (text : List ℕ) (out out' : SinkValue) (status : Status) : Type 0 where
  whole : status ≡ end → Appends out.bytes out'.bytes text → CountsStay out out' → PutAs end text out out' status
  failed : status ≡ Write → AppendsPrefix out.bytes out'.bytes text → Rose out.faults out'.faults → out'.short ≡ out.short
      → PutAs end text out out' status
  without_memory : status ≡ Memory → AppendsPrefix out.bytes out'.bytes text → out'.faults ≡ out.faults → PutAs end text out out' status

-- a text that an order may leave with a status
abbrev pub HaveText : (List ℕ → Option (List ℕ)) → OrderValue → Status → List ℕ → Type 0
HaveText bytes order end text = LeavesText end × OfPlan bytes (Some order) (λ command plan. Leaves command plan end text)

-- how an order ends
pub data OrderOutcome (files files' : FilesValue) (order : OrderValue) (out out' : SinkValue) (status : Status) : Type 0 where
  -- it has no text to put, and nothing was put
  no_text : NoPlan files files' order status → out' ≡ out → OrderOutcome files files' order out out' status
  -- it has one, which was put
  text_put : (end : Status) (text : List ℕ) → HaveText files.bytes order end text → PutAs end text out out' status
      → OrderOutcome files files' order out out' status

-- how words end: as usage where they give no order, and else as their order
abbrev pub WordsOutcome : FilesValue → FilesValue → Option OrderValue → SinkValue → SinkValue → Status → Type 0
WordsOutcome files files' None out out' status = (status ≡ Usage) × (out' ≡ out)
WordsOutcome files files' (Some order) out out' status = OrderOutcome files files' order out out' status
