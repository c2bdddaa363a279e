-- What single words and the words of options say.
use Rattle.std.specs.Prelude.{ℕ, List, [], ◌∷◌, length, Bool, true, false, not, ◌==◌, ◌&&◌, ◌||◌}
use Rattle.std.specs.Prelude.{◌≤◌, nat_lt, nat_le, if◌then◌else◌, Option, Some, None, is_some}
use Rattle.std.specs.Prelude.{codes}
use Rattle.std.specs.Option.{option_map, option_and_then}
use Rattle.std.specs.Char.{is_ascii_digit}
use Rattle.std.specs.List.{list_all}
use Rattle.std.specs.Str.Parse.{digits_value}
use Rattle.std.specs.Str.{bytes_eq}
use Rattle.pipes_output.specs.declared.form.Form.{Form}
use Rattle.pipes_output.specs.declared.form.Form.TheVariants.{Stream, Normal}
use Rattle.pipes_args.specs.declared.settings.Mode.{Mode}
use Rattle.pipes_args.specs.declared.settings.Mode.TheVariants.{Inline, Threaded}
use Rattle.pipes_args.specs.declared.settings.Settings.{Settings}

-- a positional word is not empty and begins with no dash
abbrev pub is_positional : List ℕ → Bool
is_positional [] = false
is_positional (b ∷ bs) = not (b == 45)

-- the number from the least to the most that one or more digits write
abbrev pub number_in : ℕ → ℕ → List ℕ → Option ℕ
number_in least most word = if nat_lt 0 (length word) && list_all is_ascii_digit word
    && nat_le least (digits_value 10 word) && nat_le (digits_value 10 word) most then Some
    (digits_value 10 word) else None

-- ---- positional words, each with the words after it

abbrev pub one_of : List (List ℕ) → Option (List ℕ × List (List ℕ))
one_of [] = None
one_of (a ∷ rest) = if is_positional a then Some (a, rest) else None

abbrev pub two_of : List (List ℕ) → Option (List ℕ × List ℕ × List (List ℕ))
two_of words =
    option_and_then (λ a. option_map (λ b. (a.0, b.0, b.1)) (one_of a.1)) (one_of words)

-- ---- options, each as two words, a name and a value

-- the value of the option with this name
abbrev pub value_of : List ℕ → List (List ℕ) → Option (List ℕ)
value_of name [] = None
value_of name (other ∷ []) = None
value_of name (other ∷ value ∷ rest) =
    if bytes_eq other name then Some value else value_of name rest

abbrev pub is_option : List ℕ → Bool
is_option name = bytes_eq name (codes "--form") || bytes_eq name (codes "--workers")
    || bytes_eq name (codes "--mode")

-- the name is that of an option, and none of these options has it
abbrev pub is_new : List ℕ → List (List ℕ) → Bool
is_new name options = is_option name && not (is_some (value_of name options))

-- the words are options of a run, each at most once
abbrev pub are_options : List (List ℕ) → Bool
are_options [] = true
are_options (name ∷ []) = false
are_options (name ∷ value ∷ rest) = is_new name rest && are_options rest

abbrev pub form_named : List ℕ → Option Form
form_named name = if bytes_eq name (codes "stream") then Some Stream else if bytes_eq name
    (codes "normal") then Some Normal else None

abbrev pub mode_named : List ℕ → Option Mode
mode_named name = if bytes_eq name (codes "inline") then Some Inline else if bytes_eq name
    (codes "threaded") then Some Threaded else None

-- what a word says, or what goes without saying where there is none
abbrev pub said_or : {A : Type 0} → A → (List ℕ → Option A) → Option (List ℕ) → Option A
said_or usual says None = Some usual
said_or usual says (Some word) = says word

-- a number of workers
abbrev pub AreWorkers : ℕ → Type 0
AreWorkers n = (1 ≤ n) × (n ≤ 16)

-- how a run goes and what it writes
abbrev pub settings_of : List (List ℕ) → Option Settings
settings_of options = if are_options options then option_and_then (λ form. option_and_then
    (λ workers. option_map (λ mode. record {
      form = form;
      workers = workers;
      mode = mode;
    }) (said_or Inline mode_named (value_of (codes "--mode") options)))
    (said_or 1 (number_in 1 16) (value_of (codes "--workers") options)))
    (said_or Stream form_named (value_of (codes "--form") options)) else None
