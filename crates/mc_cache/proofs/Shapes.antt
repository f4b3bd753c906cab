-- The parts that tests feed have their shape.
pub use Rattle.mc_range.proofs.Shapes.{near, one_shape, no_shape}
