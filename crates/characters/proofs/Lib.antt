mod WidthLaws
