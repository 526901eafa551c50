-- The digits of a number, which the answer on a rule's name unfolds. Declares nothing.
unfoldable pub use Rattle.std.specs.Fmt.{digits}
