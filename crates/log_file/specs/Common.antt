-- What several files of specs/ and src/ cite of other crates. They import it from here, by one line.
pub use Rattle.std.specs.List.{AllByRecursion, flat_map}
pub use Rattle.std.specs.Str.{bytes_eq}
pub use Rattle.bn_base.specs.Ranges.{IsSetting, default_settings, first_bad}
pub use Rattle.bn_base.specs.declared.settings.RawSettings.{RawSettings}
pub use Rattle.le_numbers.specs.Numbers.{AreBytes, number_at, number_bytes}
pub use Rattle.log_order.specs.Content.{Content, IsContent}
pub use Rattle.log_order.specs.Order.{after_all, broken_by, broken_in, end_break, is_late, late_edge, order_break}
pub use Rattle.log_order.specs.declared.view.HartView.{HartView}
pub use Rattle.log_order.specs.declared.walk.OrderBreak.{OrderBreak}
pub use Rattle.log_record.specs.Spelling.{Fits, bytes_of, total}
pub use Rattle.log_record.specs.declared.head.Head.{Head}
pub use Rattle.log_record.specs.declared.record.Record.{Record}
pub use Rattle.sha2.specs.Sha256.{sha256}
