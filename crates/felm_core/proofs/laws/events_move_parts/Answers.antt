use Rattle.felm_core.proofs.Entered.{next_kept, next_kept-other, next_waits-own, next_waits-over, next_waits-other, next_shown, next_shown-other}
use Rattle.std.proofs.Common.{ap, ◌∙◌, sym}
use Rattle.felm_meaning.specs.Meaning.{source_message, value_at}
use Rattle.felm_core.proofs.Entered.{kept_source, kept_is}
use Rattle.felm_core.proofs.laws.events_move_parts.Goals as goal

pub returns : goal.returns
returns c = λ s c e h. record {
  kept = λ k source. next_kept s c e h.graph h.sound h.source k source ∙ ap (λ o. value_at (source_message k e o)) (sym (kept_is s c e h.sound k source));
  kept_other = next_kept-other s c e h.graph h.sound h.source;
  waits_own = next_waits-own s c e h.graph h.sound h.source;
  waits_over = next_waits-over s c e h.graph h.sound h.source;
  waits_other = next_waits-other s c e h.graph h.sound h.source;
  shown = λ m source sends. next_shown s c e h.graph h.sound h.source m source (kept_source s c e h.sound s.graph.main source m sends);
  shown_other = next_shown-other s c e h.graph h.sound h.source;
}
