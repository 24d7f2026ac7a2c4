use Rattle.std.proofs.Common.{◌≡◌, length}
use denote.Text.{Utf8}
use denote.Shadow.{shadow}
use Rattle.dart_web_cli.proofs.Orders.{SoFar}
use Rattle.dart_web_cli.proofs.options.order_of.Given as goal

abbrev pub invariant-loop-turn : goal.invariant-loop-turn
invariant-loop-turn l = shadow (Utf8 l.text) × SoFar l.fn.word l.order l.text × (length l.order ≡ l.turn)
