use Rattle.std.proofs.Common.{◌≡◌, true, sym, ap, ◌∙◌}
use Rattle.std.specs.Option.{option_map}
use Rattle.felm_lexer.specs.Spellings.{is_name}
use Rattle.felm_parser.proofs.Spelled.{name_is, read_as_text}
use Rattle.felm_parser.proofs.names.name_of.Goals as goal

pub returns : goal.returns
returns c =
    let within = c.in_ok-spelling.ensures.lookup.0 in
    let spelled : is_name c.in_ok-spelling.spelling.now ≡ true = sym c.is_name.ensures ∙ c.if-not-is_name.false in
    ap (option_map (λ name. name.now)) c.ok.ensures.value
    ∙ read_as_text (λ name. name.now) _ c.in_ok-spelling.spelling.now c.from_utf8.result spelled c.from_utf8.ensures.cases
    ∙ sym (name_is c.args.text.now c.args.token.now c.in_ok-spelling.spelling.now c.in-Name.is within.0 within.1 within.2 spelled)
